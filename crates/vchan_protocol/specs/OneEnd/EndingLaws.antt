-- The laws of what an honest end notes of its peer's end, and of what the stores of its trail take, whatever its peer does.
-- The statements are this project's own.
use Rattle.std.specs.Prelude.{◌≡◌, ℕ, true, None, Some, IsSome}
use Rattle.ring_words.specs.declared.page.Role.{Role}
use Rattle.vchan_protocol.specs.declared.call.Answer.{Answer}
use Rattle.vchan_protocol.specs.declared.call.Answer.TheVariants.{AllRead, PeerGone}
use Rattle.vchan_protocol.specs.declared.side.Side.{Side}
use Rattle.vchan_protocol.specs.declared.side.EndedBy.TheVariants.{AllRead as ByAllRead, PeerGone as ByPeerGone}
use Rattle.vchan_protocol.specs.Table.Plan.{GoesOn, after, answers}
use Rattle.vchan_protocol.specs.History.Core.{Core, side_of, plan_left, op_next, made, answered, side_after}
use Rattle.vchan_protocol.specs.Honest.RingLaw.{CallLawful}
use Rattle.vchan_protocol.specs.Always.Invariant.{MayCome}
use Rattle.vchan_protocol.specs.OneEnd.IndexLaw.{StoresTakeNothing}
use Rattle.vchan_protocol.specs.OneEnd.EndingLaw.{EndingNoted, tells_end}

-- the notes of an end still agree after its next event, whatever value that takes
abbrev pub StepKeepsNotes : Type 0
StepKeepsNotes = (s : Side) (taken : ℕ) → CallLawful s → GoesOn (plan_left s) → EndingNoted s → EndingNoted (side_after s taken)

-- what an answer leaves noted of the peer's end
pub record EndingAnswered (before now : Side) (answer : Answer) : Type 0 where
  -- the end has seen what the answer tells of its peer's end
  pub seen : tells_end answer ≡ true → now.saw ≡ true
  -- the stream has ended, and is drained if nothing is left
  pub all_read : answer ≡ AllRead → (now.drained ≡ true) × (before.ended ≡ None → now.ended ≡ Some ByAllRead)
  pub gone : (prod cons : ℕ) → answer ≡ PeerGone prod cons → before.ended ≡ None → now.ended ≡ Some ByPeerGone
  pub gone_drained : (prod cons : ℕ) → answer ≡ PeerGone prod cons → prod ≡ cons → now.drained ≡ true
  -- what was noted before stays
  pub saw : before.saw ≡ true → now.saw ≡ true
  pub drained : before.drained ≡ true → now.drained ≡ true
  pub ended : IsSome before.ended → now.ended ≡ before.ended

-- each answer is noted in this way
abbrev pub AnswerIsNoted : Type 0
AnswerIsNoted =
    (s : Side) (taken : ℕ) (answer : Answer) → CallLawful s → GoesOn (plan_left s) → EndingNoted s → after (plan_left s) taken ≡ answers answer →
    EndingAnswered s (answered (made s (op_next s) taken) answer) answer

-- whatever happens on a page, the notes of each of its ends agree
abbrev pub EachEndingIsNoted : Type 0
EachEndingIsNoted = (core : Core) → MayCome core → (who : Role) → EndingNoted (side_of core who)

-- whatever happens on a page, each plain store in a trail took 0
abbrev pub EachStoreTakesNothing : Type 0
EachStoreTakesNothing = (core : Core) → MayCome core → (who : Role) → StoresTakeNothing (side_of core who).trail
