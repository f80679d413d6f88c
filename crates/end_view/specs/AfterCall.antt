-- What a whole call makes of the view of its end, by its answer.
-- Source: libxenvchan's io.c and init.c for what a call does to the end's own state; the statements are this project's own.
use Rattle.std.specs.Prelude.{◌≡◌, ℕ, List, ◌++◌, take, Bool, true, false, ◌||◌}
use Rattle.atomic_table.specs.Seated.{TableId}
use Rattle.vchan_protocol.specs.declared.call.Answer.{Answer}
use Rattle.vchan_protocol.specs.declared.call.Answer.TheVariants.{Connected}
use Rattle.vchan_protocol.specs.declared.call.Call.{Call}
use Rattle.vchan_protocol.specs.declared.call.Call.TheVariants.{Connect, Close, Drain, Retire}
use Rattle.vchan_protocol.specs.declared.call.EndState.{EndState}
use Rattle.vchan_protocol.specs.declared.call.EndState.TheVariants.{Open, Shut}
use Rattle.vchan_protocol.specs.declared.side.Side.{Side}
use Rattle.vchan_protocol.specs.Table.Calls.{IsAllowed}
use Rattle.vchan_protocol.specs.History.Core.{ending, drains, first_ended, misleads}
use Rattle.vchan_protocol.specs.OneEnd.EndingLaw.{tells_end}
use Rattle.vchan_protocol.specs.OneEnd.OneCall.{bytes_out, bytes_in, IsOver}
use Rattle.end_view.specs.EndView.{EndView, view_of}

-- an end between two calls may begin this call
abbrev pub MayCall : EndView → Call → Type 0
MayCall e call = (e.idle ≡ true) × IsAllowed e.role e.state call

-- a connect that succeeds opens its end, and a close or a retire shuts it
abbrev pub state_told : Call → Answer → EndState → EndState
state_told Connect Connected state = Open
state_told Close answer state = Shut
state_told Retire answer state = Shut
state_told call answer state = state

-- a retire sets the gone word
abbrev pub retires : Call → Bool
retires Retire = true
retires call = false

-- the view of an end after a whole call with this answer, when it has seen its peer's end or not
abbrev pub answered_view : EndView → Call → List ℕ → List ℕ → Answer → Bool → EndView
answered_view e call payload buffer answer saw = record e {
  state = state_told call answer e.state;
  sent = e.sent ++ take (bytes_out answer) payload;
  got = e.got ++ take (bytes_in answer) buffer;
  saw = saw;
  ended = first_ended e.ended (ending answer);
  drained = e.drained || drains answer;
  misled = e.misled || misleads answer;
  retired = e.retired || retires call;
}

-- A drain may see an end that its answer doesn't tell of: it finds the live byte 0, and then bytes that were written before. It has seen what
-- the answer tells, and what it had seen before.
pub record DrainSees (answer : Answer) (before now : Bool) : Type 0 where
  pub told : tells_end answer ≡ true → now ≡ true
  pub known : before ≡ true → now ≡ true

-- every other call sees its peer's end if and only if its answer tells of it
abbrev pub SeesAsTold : Call → Answer → Bool → Bool → Type 0
SeesAsTold (Drain most) answer before now = DrainSees answer before now
SeesAsTold call answer before now = now ≡ (before || tells_end answer)

-- each whole call of an honest end changes its view in this way, whatever its peer does
pub record ViewAfterCall (page : TableId) (was : Side) (call : Call) (payload : List ℕ) (s : Side) (buffer : List ℕ) (answer : Answer) : Type 0 where
  pub view : view_of page true s ≡ answered_view (view_of page true was) call payload buffer answer s.saw
  pub saw : SeesAsTold call answer was.saw s.saw

abbrev pub EachViewAfterCall : Type 0
EachViewAfterCall =
    (page : TableId) (was : Side) (call : Call) (payload start : List ℕ) (s : Side) (buffer : List ℕ) (answer : Answer) → was.turned ≡ false → IsAllowed was.role was.state call →
    IsOver was call payload start s buffer answer → ViewAfterCall page was call payload s buffer answer
