-- A line that is written piece by piece.
use Rattle.std.proofs.Common.{◌≡◌, ℕ, ◌+◌, ◌<◌, List, [], ◌∷◌, ◌++◌, Bor, add-one, drop, flat_map, get_or, length, take, Option, None, Some, Result, Ok, Err, refl, sym, ap, ◌∙◌, subst, arith, inl, inr, append_assoc, append-nil, length-append}
use Rattle.std.proofs.Math.Seq.{drop-cons, take-append-add}
use Rattle.vchan_io.specs.Counts.{Rose}
use Rattle.vchan_io.specs.Streams.{Appends}
use Rattle.vchan_io.specs.declared.writing.WriteFault.{WriteFault as SinkFailed}
use Rattle.vchan_io.proofs.Streaming.{Appends_both}
use Rattle.vchan_top.specs.Status.{IsWritten, Writes}

-- the pieces that are left go behind one that was written
pub then_writes : (piece rest : List ℕ) (a b c : Option (List ℕ)) (f g h : ℕ) (r : Result (Unit {0}) SinkFailed) → Appends a b piece → g ≡ f → Writes rest b c g h r → Writes (piece ++ rest) a c f h r
then_writes piece rest a b c f g h (Ok done) here same writes = (Appends_both a b c piece rest here writes.0, omega (arith, same, writes.1))
then_writes piece rest a b c f g h (Err failed) here same writes = (
  (length piece + writes.0.0, let long = length-append piece rest in omega (arith, long, writes.0.1), subst (Appends a c) (sym (take-append-add piece rest writes.0.0)) (Appends_both a b c piece (take writes.0.0 rest) here writes.0.2)),
  subst (λ n. Rose n h) same writes.1,
)

-- a line was written, or was cut short
pub told : (line : List ℕ) (a b : Option (List ℕ)) (f g : ℕ) (r : Result (Unit {0}) SinkFailed) → Writes line a b f g r → IsWritten line a b f g
told line a b f g (Ok done) writes = inl writes
told line a b f g (Err failed) writes = inr writes

-- nothing is appended by no pieces
pub no_pieces : (held : Option (List ℕ)) (count : ℕ) (rest : List ℕ) → rest ≡ [] → Writes rest held held count count (Ok tt)
no_pieces None count rest none = subst (λ l. Writes l None None count count (Ok tt)) (sym none) (refl, refl)
no_pieces (Some bytes) count rest none = subst (λ l. Writes l (Some bytes) (Some bytes) count count (Ok tt)) (sym none) (ap Some (sym (append-nil bytes)), refl)

-- the pieces in a row
pub five : (v w x y z : List ℕ) → v ++ (w ++ (x ++ (y ++ (z ++ [])))) ≡ v ++ w ++ x ++ y ++ z
five v w x y z = ap (λ r. v ++ (w ++ (x ++ (y ++ r)))) (append-nil z) ∙ sym (append_assoc (v ++ w ++ x) y z ∙ append_assoc (v ++ w) x (y ++ z) ∙ append_assoc v w (x ++ (y ++ z)))

-- the next piece, and those behind it
pub next_piece : (pieces : List (Bor (List ℕ))) (i : ℕ) (none : Bor (List ℕ)) → i < length pieces → flat_map (λ p. p.now) (drop i pieces) ≡ (get_or pieces i none).now ++ flat_map (λ p. p.now) (drop (i + 1) pieces)
next_piece pieces i none within = ap (λ (ps : List (Bor (List ℕ))). flat_map (λ p. p.now) ps) (drop-cons pieces i none within ∙ ap (λ n. get_or pieces i none ∷ drop n pieces) (sym (add-one i)))

-- once the pieces that are left are written, all are
pub record Goes (all rest : List ℕ) (a now : Option (List ℕ)) (f count : ℕ) : Type 0 where
  pub on : (c : Option (List ℕ)) (h : ℕ) (r : Result (Unit {0}) SinkFailed) → Writes rest now c count h r → Writes all a c f h r

pub goes_on : (all piece rest : List ℕ) (a b c : Option (List ℕ)) (f g h : ℕ) → Goes all (piece ++ rest) a b f g → Appends b c piece → h ≡ g → Goes all rest a c f h
goes_on all piece rest a b c f g h goes here same = record { on = λ d i r writes. goes.on d i r (then_writes piece rest b c d g h i r here same writes) }
