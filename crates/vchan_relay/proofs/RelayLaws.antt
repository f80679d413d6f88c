-- What a relay holds, through a drain, a write and an end.
use Rattle.std.proofs.Common.{rules, ◌≡◌, ◌≢◌, ◌+◌, ◌-◌, ◌≤◌, ◌==◌, ℕ, min, Bool, true, false, if◌then◌else◌, List, [], ◌∷◌, ◌++◌, length, take, drop, sym, ap, subst, ◌∙◌, arith, append_assoc}
use Rattle.std.specs.List.{slice_range}
use Rattle.std.proofs.lemmas.List.{length-drop, length-take-le, drop-take, drop-drop, take-append-drop}
use Rattle.vchan_protocol.specs.declared.call.Call.TheVariants.{Drain, Write}
use Rattle.vchan_protocol.specs.Table.Calls.{Trace}
use Rattle.vchan_protocol.specs.History.Core.{standing_of}
use Rattle.end_view.specs.AfterCall.{DrainSees}
use Rattle.vchan_rule.specs.Seated.{SeatedEnd, view}
use Rattle.vchan_rule.specs.Called.{most_asked}
use Rattle.vchan_lifecycle.specs.Lifecycle.{drained_to, drain_told}
use Rattle.vchan_lifecycle.specs.declared.DrainAnswer.{DrainAnswer}
use Rattle.vchan_lifecycle.specs.declared.DrainAnswer.TheVariants.{PeerGone}
use Rattle.vchan_stream.specs.Stream.{write_told, wrote_to}
use Rattle.vchan_stream.specs.declared.WriteAnswer.{WriteAnswer}
use Rattle.vchan_relay.specs.declared.turn.RelayTurn.{RelayTurn}
use Rattle.vchan_relay.specs.declared.turn.RelayTurn.TheVariants.{Ended, NearGone}
use Rattle.vchan_relay.specs.Relay.{RelayState}
use Rattle.vchan_relay.specs.Turns.{HasDrained, HasWritten, HasTurned, by_drain}

pub length_range : (xs : List ℕ) (a b : ℕ) → a ≤ b → b ≤ length xs → length (slice_range xs a b) ≡ b - a
length_range xs a b order within = length-take-le (b - a) (drop a xs) (omega (arith, length-drop a xs, order, within))

pub range_front : (xs : List ℕ) (b : ℕ) → slice_range xs 0 b ≡ take b xs
range_front xs b = let all : b - 0 ≡ b = omega arith in ap (λ (n : ℕ). take n xs) all

-- more bytes of a range are left out at its front
pub range_drop : (xs : List ℕ) (a k b : ℕ) → a + k ≤ b → slice_range xs (a + k) b ≡ drop k (slice_range xs a b)
range_drop xs a k b order =
    let rest = b - (a + k) in
    let whole : b - a ≡ k + rest = omega (arith, order) in
    sym (ap (λ (n : ℕ). drop k (take n (drop a xs))) whole ∙ drop-take k rest (drop a xs) ∙ ap (λ (ys : List ℕ). take rest ys) (drop-drop k a xs))

-- what is passed on is sent after what was sent before, and no longer held
pub passed_on : (got sent held : List ℕ) (k : ℕ) → got ≡ sent ++ held → got ≡ (sent ++ take k held) ++ drop k held
passed_on got sent held k lawful = lawful ∙ ap (λ (bytes : List ℕ). sent ++ bytes) (sym (take-append-drop k held)) ∙ sym (append_assoc sent (take k held) (drop k held))

-- a range of no byte has none in another list either
pub range_still_none : (xs ys : List ℕ) (a b : ℕ) → a ≤ b → b ≤ length xs → slice_range xs a b ≡ [] → slice_range ys a b ≡ []
range_still_none xs ys a b order within none =
    let long = length_range xs a b order within in
    let zero : length (slice_range xs a b) ≡ 0 = ap (λ (zs : List ℕ). length zs) none in
    let same : b - a ≡ 0 = omega (arith, long, zero) in
    ap (λ (n : ℕ). take n (drop a ys)) same

pub not_none : (xs : List ℕ) → 1 ≤ length xs → xs ≢ []
not_none [] some is = omega (arith, some)
not_none (x ∷ xs) some is = cc

-- ---- the calls of a turn

pub has_drained : (was e : SeatedEnd) (answer : DrainAnswer) (old bytes : List ℕ) → length bytes ≡ length old → view e ≡ drained_to (view was) answer bytes e.side.saw → DrainSees (drain_told answer) was.side.saw e.side.saw →
    Trace (standing_of was.side) (Drain (most_asked old)) e.side.trail (drain_told answer) → HasDrained was answer bytes e
has_drained was e answer old bytes long sees told trail =
    record { view_is = sees; sees = told; trail = subst (λ (n : ℕ). Trace (standing_of was.side) (Drain n) e.side.trail (drain_told answer)) (ap (λ (n : ℕ). min n 4294967295) (sym long)) trail }

pub has_written : (was e : SeatedEnd) (answer : WriteAnswer) (given bytes : List ℕ) → given ≡ bytes → view e ≡ wrote_to (view was) answer given → Trace (standing_of was.side) (Write (most_asked given)) e.side.trail (write_told answer) → HasWritten was answer bytes e
has_written was e answer given bytes same sees trail =
    subst (λ (xs : List ℕ). HasWritten was answer xs e) same (record { view_is = sees; trail = trail })

pub gone_empty : (prod cons : ℕ) → prod ≡ cons → Ended ≡ by_drain (PeerGone prod cons)
gone_empty prod cons same = let equal : (prod == cons) ≡ true = search rules in ap (λ (b : Bool). if b then Ended else NearGone prod cons) (sym equal)

pub gone_behind : (prod cons : ℕ) → prod ≢ cons → NearGone prod cons ≡ by_drain (PeerGone prod cons)
gone_behind prod cons differ = let other : (prod == cons) ≡ false = search rules in ap (λ (b : Bool). if b then Ended else NearGone prod cons) (sym other)

pub turned_at : (was seen : RelayState) (turn : RelayTurn) (now : RelayState) → was ≡ seen → HasTurned was turn now → HasTurned seen turn now
turned_at was seen turn now is turned = subst (λ (w : RelayState). HasTurned w turn now) is turned

pub turned_with : (was : RelayState) (answer turn : RelayTurn) (now : RelayState) → answer ≡ turn → HasTurned was turn now → HasTurned was answer now
turned_with was answer turn now is turned = subst (λ (t : RelayTurn). HasTurned was t now) (sym is) turned
