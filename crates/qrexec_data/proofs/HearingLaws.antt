-- What is seen of one more message, if those before it decide nothing.
use Rattle.std.proofs.Common.{◌≡◌, ℕ, List, [], ◌∷◌, ◌++◌, refl, ap, sym, subst, ◌∙◌, Some, Ok, Err}
use Rattle.std.proofs.lemmas.List.{append-nil}
use Rattle.std.specs.Prelude.{true, false, Bool, ◌&&◌, ◌||◌, min, nat_lt}
use Rattle.qrexec_frame.specs.declared.message.Message.{Message}
use Rattle.qrexec_frame.specs.declared.message.Message.TheVariants as message
use Rattle.qrexec_frame.specs.Grammar.{Fault}
use Rattle.qrexec_frame.specs.Streams.{Placed, Ending, Rest, FaultAt}
use Rattle.qrexec_hello.specs.Greeting.{greeting}
use Rattle.qrexec_hello.specs.declared.hello.HelloFault.{HelloFault}
use Rattle.qrexec_hello.specs.declared.hello.HelloFault.TheVariants.{NotHello, Version}
use Rattle.qrexec_data.specs.Pieces.{Stream, Piece, joined, has_ended, is_stream, no_bytes}
use Rattle.qrexec_data.specs.Seeing.{Seen, Undecided, Use, Carries, Exits, Strays, sees_on, sees_one, sees_all, piece_first, at_end, number}
use Rattle.qrexec_data.specs.Sending.{agreed_by}
use Rattle.qrexec_data.proofs.PieceLaws.{all_first, joined_append}

-- a greeting is accepted in every own version, or in none
pub data Greeted (own : ℕ) (m : Message) : Type 0 where
  Accepted : (version low : ℕ) → greeting own m ≡ Ok version → greeting 2 m ≡ Ok low → Greeted own m
  Refused : (f : HelloFault) → greeting own m ≡ Err f → greeting 2 m ≡ Err f → Greeted own m

greeted_hello : (own v : ℕ) (b : Bool) → nat_lt v 2 ≡ b → Greeted own (message.Hello v)
greeted_hello own v true is = Refused (Version v) (rw is refl) (rw is refl)
greeted_hello own v false is = Accepted (min own v) (min 2 v) (rw is refl) (rw is refl)

pub greeted_any : (own : ℕ) (m : Message) → Greeted own m
greeted_any own (message.Hello v) = greeted_hello own v (nat_lt v 2) refl
greeted_any own (message.Stdin bytes) = Refused (NotHello (number (message.Stdin bytes))) refl refl
greeted_any own (message.Stdout bytes) = Refused (NotHello (number (message.Stdout bytes))) refl refl
greeted_any own (message.Stderr bytes) = Refused (NotHello (number (message.Stderr bytes))) refl refl
greeted_any own (message.ExitCode code) = Refused (NotHello (number (message.ExitCode code))) refl refl
greeted_any own (message.Exec domain port line) = Refused (NotHello (number (message.Exec domain port line))) refl refl
greeted_any own (message.JustExec domain port line) = Refused (NotHello (number (message.JustExec domain port line))) refl refl
greeted_any own (message.Connect domain port ident) = Refused (NotHello (number (message.Connect domain port ident))) refl refl
greeted_any own (message.Refused ident) = Refused (NotHello (number (message.Refused ident))) refl refl
greeted_any own (message.Terminated domain port) = Refused (NotHello (number (message.Terminated domain port))) refl refl
greeted_any own (message.Trigger3 target ident service) = Refused (NotHello (number (message.Trigger3 target ident service))) refl refl
greeted_any own (message.Trigger target ident service) = Refused (NotHello (number (message.Trigger target ident service))) refl refl

-- ---- after messages that decide nothing

-- what follows the messages is seen after their pieces
pub record Behind (takes : Message → Use) (placed : List (Placed Message)) (before pieces : List Piece) (rest : List (Placed Message)) (ending : Ending Fault) : Type 0 where
  pub now : List Piece
  pub ended : (s : Stream) → has_ended s now ≡ (has_ended s before || has_ended s pieces)
  pub seen : sees_on takes (placed ++ rest) ending before ≡ all_first pieces (sees_on takes rest ending now)

or_assoc : (a b c : Bool) → (a || b) || c ≡ b || (a || c)
or_assoc true true c = refl
or_assoc true false c = refl
or_assoc false true c = refl
or_assoc false false c = refl

or-false : (a : Bool) → a ≡ (a || false)
or-false true = refl
or-false false = refl

pub behind : (takes : Message → Use) (placed : List (Placed Message)) (before : List Piece) (left : ℕ) → (sees_on takes placed (Rest left) before).verdict ≡ Undecided
    → (rest : List (Placed Message)) (ending : Ending Fault) → Behind takes placed before (sees_on takes placed (Rest left) before).pieces rest ending
behind takes [] before left none rest ending = record { now = before; ended = λ s. or-false (has_ended s before); seen = refl }
behind takes (p ∷ placed) before left none rest ending = by_use (takes p.message) refl (λ now next. behind takes placed now left next rest ending)
  where
    Rec : Type 0
    Rec = (now : List Piece) → (sees_on takes placed (Rest left) now).verdict ≡ Undecided → Behind takes placed now (sees_on takes placed (Rest left) now).pieces rest ending

    by_test : (piece : Piece) → takes p.message ≡ Carries piece → (b : Bool) → has_ended piece.stream before ≡ b → Rec
        → Behind takes (p ∷ placed) before (sees_on takes (p ∷ placed) (Rest left) before).pieces rest ending
    by_test piece is true ended on = let decides : (sees_on takes (p ∷ placed) (Rest left) before).verdict ≡ Undecided = none in let no = rw (is, ended) at decides in cc
    by_test piece is false ended on =
        let next : (sees_on takes placed (Rest left) (piece ∷ before)).verdict ≡ Undecided = (let h : (sees_on takes (p ∷ placed) (Rest left) before).verdict ≡ Undecided = none in rw (is, ended) at h) in
        let b = on (piece ∷ before) next in
        let all : sees_on takes (p ∷ placed) (Rest left) before ≡ piece_first piece (sees_on takes placed (Rest left) (piece ∷ before)) = rw (is, ended) refl in
        let P : Seen → Type 0 = λ seen. Behind takes (p ∷ placed) before seen.pieces rest ending in
        subst P (sym all) (record {
          now = b.now;
          ended = λ s. b.ended s ∙ or_assoc (is_stream piece.stream s && no_bytes piece.bytes) (has_ended s before) (has_ended s (sees_on takes placed (Rest left) (piece ∷ before)).pieces);
          seen = rw (is, ended) (ap (piece_first piece) b.seen);
        })

    by_use : (u : Use) → takes p.message ≡ u → Rec → Behind takes (p ∷ placed) before (sees_on takes (p ∷ placed) (Rest left) before).pieces rest ending
    by_use (Carries piece) is on = by_test piece is (has_ended piece.stream before) refl on
    by_use (Exits code) is on = let h : (sees_on takes (p ∷ placed) (Rest left) before).verdict ≡ Undecided = none in let no = rw is at h in cc
    by_use Strays is on = let h : (sees_on takes (p ∷ placed) (Rest left) before).verdict ≡ Undecided = none in let no = rw is at h in cc

-- how many bytes are left over changes nothing
left_over_on : (takes : Message → Use) (placed : List (Placed Message)) (a b : ℕ) (before : List Piece) → sees_on takes placed (Rest a) before ≡ sees_on takes placed (Rest b) before
left_over_on takes [] a b before = refl
left_over_on takes (p ∷ placed) a b before = λ i. sees_one (takes p.message) p.at (number p.message) before (λ now. left_over_on takes placed a b now i)

pub left_over : (takes : Message → Use) (placed : List (Placed Message)) (a b : ℕ) → sees_all takes placed (Rest a) ≡ sees_all takes placed (Rest b)
left_over takes [] a b = refl
left_over takes (p ∷ placed) a b = by_greeted (greeted_any 2 p.message)
  where
    by_greeted : Greeted 2 p.message → sees_all takes (p ∷ placed) (Rest a) ≡ sees_all takes (p ∷ placed) (Rest b)
    by_greeted (Accepted version low is low_is) = rw low_is (left_over_on takes placed a b [])
    by_greeted (Refused f is is2) = rw is2 refl

-- a fault of the bytes that follow is what is seen after messages that decide nothing
pub seen_frame : (takes : Message → Use) (placed : List (Placed Message)) → (sees_all takes placed (Rest 0)).verdict ≡ Undecided → (at : ℕ) (fault : Fault)
    → sees_all takes placed (FaultAt at fault) ≡ record { pieces = (sees_all takes placed (Rest 0)).pieces; verdict = at_end (FaultAt at fault) }
seen_frame takes [] none at fault = refl
seen_frame takes (p ∷ placed) none at fault = by_greeted (greeted_any 2 p.message)
  where
    by_greeted : Greeted 2 p.message → sees_all takes (p ∷ placed) (FaultAt at fault) ≡ record { pieces = (sees_all takes (p ∷ placed) (Rest 0)).pieces; verdict = at_end (FaultAt at fault) }
    by_greeted (Accepted version low is low_is) =
        let next : (sees_on takes placed (Rest 0) []).verdict ≡ Undecided = (let h : (sees_all takes (p ∷ placed) (Rest 0)).verdict ≡ Undecided = none in rw low_is at h) in
        let b = behind takes placed [] 0 next [] (FaultAt at fault) in
        rw low_is (ap (λ ps. sees_on takes ps (FaultAt at fault) []) (sym (append-nil placed)) ∙ b.seen ∙ rw (append-nil (sees_on takes placed (Rest 0) []).pieces) refl)
    by_greeted (Refused f is is2) = let h : (sees_all takes (p ∷ placed) (Rest 0)).verdict ≡ Undecided = none in let no = rw is2 at h in cc

-- ---- one more message

-- the message after a first one that greets
pub record Follows (takes : Message → Use) (own : ℕ) (q : Placed Message) (placed : List (Placed Message)) (p : Placed Message) : Type 0 where
  pub version : ℕ
  pub agreed : (rest : List (Placed Message)) → agreed_by own (q ∷ rest) ≡ Some version
  pub pieces_are : sees_all takes (q ∷ placed) (Rest 0) ≡ sees_on takes placed (Rest 0) []
  pub seen : (rest : List (Placed Message)) (ending : Ending Fault) → (now : List Piece) × ((s : Stream) → has_ended s now ≡ has_ended s (sees_all takes (q ∷ placed) (Rest 0)).pieces)
      × (sees_all takes ((q ∷ placed) ++ p ∷ rest) ending ≡ all_first (sees_all takes (q ∷ placed) (Rest 0)).pieces (sees_on takes (p ∷ rest) ending now))

pub follows : (takes : Message → Use) (own : ℕ) (q : Placed Message) (placed : List (Placed Message)) (p : Placed Message) → (sees_all takes (q ∷ placed) (Rest 0)).verdict ≡ Undecided
    → Follows takes own q placed p
follows takes own q placed p none = by_greeted (greeted_any own q.message)
  where
    by_greeted : Greeted own q.message → Follows takes own q placed p
    by_greeted (Accepted version low is low_is) =
        let on : (ps : List (Placed Message)) (e : Ending Fault) → sees_all takes (q ∷ ps) e ≡ sees_on takes ps e [] = λ ps e. rw low_is refl in
        let all : sees_all takes (q ∷ placed) (Rest 0) ≡ sees_on takes placed (Rest 0) [] = on placed (Rest 0) in
        let next : (sees_on takes placed (Rest 0) []).verdict ≡ Undecided = ap (λ s. s.verdict) (sym all) ∙ none in
        record {
          version = version;
          agreed = λ rest. rw is refl;
          pieces_are = all;
          seen = λ rest ending.
              let b = behind takes placed [] 0 next (p ∷ rest) ending in
              (b.now, λ s. b.ended s ∙ ap (λ x. has_ended s x.pieces) (sym all), on (placed ++ p ∷ rest) ending ∙ b.seen ∙ ap (λ x. all_first x.pieces (sees_on takes (p ∷ rest) ending b.now)) (sym all));
        }
    by_greeted (Refused f is is2) = let h : (sees_all takes (q ∷ placed) (Rest 0)).verdict ≡ Undecided = none in let no = rw is2 at h in cc

-- ---- one more piece

pub joined_piece : (s : Stream) (pieces : List Piece) (piece : Piece) → is_stream piece.stream s ≡ true → joined s (pieces ++ piece ∷ []) ≡ joined s pieces ++ piece.bytes
joined_piece s pieces piece is = joined_append s pieces (piece ∷ []) ∙ ap (λ r. joined s pieces ++ r) (rw is (append-nil piece.bytes))

pub joined_other : (s : Stream) (pieces : List Piece) (piece : Piece) → is_stream piece.stream s ≡ false → joined s (pieces ++ piece ∷ []) ≡ joined s pieces
joined_other s pieces piece is = joined_append s pieces (piece ∷ []) ∙ ap (λ r. joined s pieces ++ r) (rw is refl) ∙ append-nil (joined s pieces)

ended_join : (s : Stream) (xs ys : List Piece) → has_ended s (xs ++ ys) ≡ (has_ended s xs || has_ended s ys)
ended_join s [] ys = refl
ended_join s (p ∷ xs) ys = by_test (is_stream p.stream s && no_bytes p.bytes) (ended_join s xs ys)
  where
    by_test : (b : Bool) → has_ended s (xs ++ ys) ≡ (has_ended s xs || has_ended s ys) → (b || has_ended s (xs ++ ys)) ≡ ((b || has_ended s xs) || has_ended s ys)
    by_test true more = refl
    by_test false more = more

pub ended_piece : (s : Stream) (pieces : List Piece) (piece : Piece) → is_stream piece.stream s ≡ true → has_ended s pieces ≡ false → has_ended s (pieces ++ piece ∷ []) ≡ no_bytes piece.bytes
ended_piece s pieces piece is none = ended_join s pieces (piece ∷ []) ∙ rw (none, is) (sym (or-false (no_bytes piece.bytes)))

pub ended_other : (s : Stream) (pieces : List Piece) (piece : Piece) → is_stream piece.stream s ≡ false → has_ended s (pieces ++ piece ∷ []) ≡ has_ended s pieces
ended_other s pieces piece is = ended_join s pieces (piece ∷ []) ∙ rw is (sym (or-false (has_ended s pieces)))
