-- One round on the bytes that are left.
use Rattle.std.proofs.Common.{◌≡◌, ℕ, ◌+◌, List, ◌++◌, length, take, drop, sym, subst, ap, ◌∙◌, arith, append_assoc}
use Rattle.std.proofs.Math.Seq.{take-add}
use Rattle.vchan_protocol.specs.declared.call.Call.TheVariants.{Write}
use Rattle.vchan_protocol.specs.Table.Calls.{Trace}
use Rattle.vchan_protocol.specs.History.Core.{standing_of}
use Rattle.vchan_protocol.specs.OneEnd.OneCall.{MadeOneCall}
use Rattle.end_view.specs.EndView.{EndView}
use Rattle.vchan_rule.specs.Seated.{SeatedEnd, view}
use Rattle.vchan_rule.specs.Called.{most_asked}
use Rattle.vchan_stream.specs.Stream.{wrote_to, write_told}
use Rattle.vchan_stream.specs.declared.WriteAnswer.{WriteAnswer}
use Rattle.vchan_block.specs.declared.writing.BlockWrite.TheVariants as wrote
use Rattle.vchan_block.specs.Rounds.{IsWriteRound}

pub round_on : (bytes left : List ℕ) (moved : ℕ) (answer : WriteAnswer) (old new : SeatedEnd) → left ≡ drop moved bytes → view new ≡ wrote_to (view old) answer left
    → MadeOneCall old.side (Write (most_asked left)) new.side (write_told answer) → Trace (standing_of old.side) (Write (most_asked left)) new.side.trail (write_told answer) → IsWriteRound (drop moved bytes) answer old new
round_on bytes left moved answer old new is view_is once trail =
    subst (λ (xs : List ℕ). IsWriteRound xs answer old new) is (record { view_is = view_is; once = once; trail = trail })

-- the bytes that are sent then
pub sent_on : (e first now : EndView) (bytes left : List ℕ) (moved count : ℕ) → left ≡ drop moved bytes → e ≡ record first { sent = first.sent ++ take moved bytes } → now ≡ record e { sent = e.sent ++ take count left }
    → now ≡ record first { sent = first.sent ++ take (moved + count) bytes }
sent_on e first now bytes left moved count is before after =
    after ∙ ap (λ (v : EndView). record v { sent = v.sent ++ take count left }) before
    ∙ ap (λ (sent : List ℕ). record first { sent = sent })
    (append_assoc first.sent (take moved bytes) (take count left)
    ∙ ap (λ (more : List ℕ). first.sent ++ more) (ap (λ (xs : List ℕ). take moved bytes ++ take count xs) is ∙ sym (take-add moved count bytes)))

-- if all bytes are moved, a write that gives this answer moved all
pub wrote_whole : (bytes : List ℕ) (moved count : ℕ) → moved + count ≡ length bytes → (before last : ℕ) → wrote.Wrote moved count ≡ wrote.Wrote before last → before + last ≡ length bytes
wrote_whole bytes moved count all before last is =
    let first : moved ≡ before = cc in
    let second : count ≡ last = cc in
    omega (arith, first, second, all)
