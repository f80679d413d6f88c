-- What an honest end can say of itself, whatever its peer stores: it needs no word of the page, and nothing of the peer.
-- The statements are this project's own.
use Rattle.std.specs.Prelude.{◌≡◌, ◌⊎◌, ℕ, ◌^◌, ◌<◌, true, false, None, List, [], length}
use Rattle.ring_words.specs.declared.order.Orders.{Orders}
use Rattle.ring_words.specs.declared.page.Role.{Role}
use Rattle.vchan_protocol.specs.declared.call.Answer.{Answer}
use Rattle.vchan_protocol.specs.declared.call.Call.{Call}
use Rattle.vchan_protocol.specs.declared.call.EndState.{EndState}
use Rattle.vchan_protocol.specs.declared.call.EndState.TheVariants.{Shut}
use Rattle.vchan_protocol.specs.declared.side.Side.{Side}
use Rattle.vchan_protocol.specs.declared.side.Begun.{Begun}
use Rattle.vchan_protocol.specs.Table.Plan.{GoesOn}
use Rattle.vchan_protocol.specs.Table.Calls.{payload_of, Trace, IsAllowed}
use Rattle.vchan_protocol.specs.History.Core.{Core, new_side, begins, side_after, side_of, plan_left, begun_standing, standing_of, standing_along}
use Rattle.vchan_protocol.specs.Honest.RingLaw.{index_at, CallLawful}
use Rattle.vchan_protocol.specs.Honest.Reached.{MayBegin}
use Rattle.vchan_protocol.specs.Always.Invariant.{MayCome}
use Rattle.vchan_protocol.specs.OneEnd.EndingLaw.{EndingNoted}

-- its trail is a whole call that it began and has the answer to, and the end is as that call left it
pub record HasCalled (s : Side) : Type 0 where
  pub begun : Begun
  pub answer : Answer
  pub allowed : IsAllowed s.role begun.state begun.call
  pub pays : length s.payload ≡ payload_of begun.call
  pub trace : Trace (begun_standing s begun) begun.call s.trail answer
  pub stands : standing_along (begun_standing s begun) s.trail ≡ standing_of s

-- an honest end, on a page whose indices all began at `start`
pub record OwnLawful (start : ℕ) (s : Side) : Type 0 where
  pub honest : s.turned ≡ false
  -- its counts are the start and the lengths of its lists
  pub prod : s.prod ≡ index_at start (length s.sent)
  pub cons : s.cons ≡ index_at start (length s.got)
  -- within a call its trail is a beginning of that call; between two calls its trail is the whole last one, and before the first it is empty
  pub call : CallLawful s
  pub called : s.call ≡ None → (s.trail ≡ []) ⊎ HasCalled s
  -- what it has noted of its peer's end agrees
  pub noted : EndingNoted s
  -- a retired end is shut
  pub retired : s.retired ≡ true → s.state ≡ Shut

-- ---- the laws of its steps

abbrev pub OwnAtOpening : Type 0
OwnAtOpening = (role : Role) (orders : Orders) (start : ℕ) (state : EndState) → start < 2 ^ 32 → OwnLawful start (new_side role orders start state)

abbrev pub BeginKeepsOwn : Type 0
BeginKeepsOwn = (start : ℕ) (s : Side) (call : Call) (payload : List ℕ) → OwnLawful start s → MayBegin s.role s call payload → OwnLawful start (begins s call payload)

-- whatever value its next event takes
abbrev pub StepKeepsOwn : Type 0
StepKeepsOwn = (start : ℕ) (s : Side) (taken : ℕ) → OwnLawful start s → GoesOn (plan_left s) → OwnLawful start (side_after s taken)

-- so it holds of each honest end of a page, whatever happens to the page
abbrev pub EachOwnIsLawful : Type 0
EachOwnIsLawful = (core : Core) → MayCome core → (who : Role) → (side_of core who).turned ≡ false → OwnLawful core.start (side_of core who)
