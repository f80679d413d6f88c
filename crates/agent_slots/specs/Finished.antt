-- What ends report when all of them are retired.
use Rattle.std.specs.Prelude.{◌≡◌, ◌≢◌, ℕ, List, [], ◌∷◌, slice_get, option_and_then, Option, Some, None, IsSome}
use Rattle.std.specs.List.{AllByRecursion as Each}
use Rattle.task_duties.specs.declared.done.ServedDone.{ServedDone}
use Rattle.task_duties.specs.TaskOwes.{EndAt}
use Rattle.agent_slots.specs.declared.done.CallOver.{CallOver}
use Rattle.agent_slots.specs.declared.note.CallNote.{CallNote}
use Rattle.agent_slots.specs.declared.note.ServedNote.{ServedNote}
use Rattle.agent_slots.specs.declared.done.SessionDone.{SessionDone}
use Rattle.agent_slots.specs.declared.done.SessionDone.TheVariants.{Call, Serving}
use Rattle.agent_slots.specs.declared.slot.Slot.{Slot}
use Rattle.agent_slots.specs.Slots.{held_at}
use Rattle.agent_slots.specs.Done.{AreBack}
use Rattle.agent_slots.specs.Reports.{call_in, served_in}
use Rattle.agent_slots.specs.Stages.{Frame, IsReportOf, IsStage}
use Rattle.agent_slots.specs.Whole.{frames, held_in}

-- each end is the same one as before, and its report is that of its use
abbrev pub AreReported : ℕ → List Frame → List EndAt → List SessionDone → Type 0
AreReported version [] [] [] = Unit {0}
AreReported version (f ∷ fs) (e ∷ ends) (r ∷ reports) = (held_at e ≡ f.held) × IsReportOf version f.held.place f.used e.view r × AreReported version fs ends reports
AreReported version _ _ _ = ⊥

-- all ends are given back behind the first, and each of them is reported
pub record AreFinished (first : EndAt) (slots : List Slot) (ends : List EndAt) (reports : List SessionDone) : Type 0 where
  pub back : AreBack first (held_in slots) ends
  pub reported : (version : ℕ) → Each (λ s. IsStage version s.stage) slots → AreReported version (frames slots) back.rest reports

-- what came of a noted call, and of a noted session that served
abbrev pub call_at : List SessionDone → Option CallNote → Option CallOver
call_at reports None = None
call_at reports (Some n) = option_and_then call_in (slice_get reports n.at)

abbrev pub served_at : List SessionDone → ServedNote → Option ServedDone
served_at reports n = option_and_then served_in (slice_get reports n.at)

-- each of them has a report with its own number
abbrev pub AreCalls : List SessionDone → List (Option CallNote) → Type 0
AreCalls reports calls = (number : ℕ) (n : CallNote) → slice_get calls number ≡ Some (Some n) → (over : CallOver) × (slice_get reports n.at ≡ Some (Call number over))

abbrev pub AreServings : List SessionDone → List ServedNote → Type 0
AreServings reports served = (number : ℕ) (n : ServedNote) → slice_get served number ≡ Some n → (done : ServedDone) × (slice_get reports n.at ≡ Some (Serving number done))

-- the reports of served sessions are as before
abbrev pub KeepsServings : List SessionDone → List SessionDone → Type 0
KeepsServings old new = (at number : ℕ) (done : ServedDone) → slice_get old at ≡ Some (Serving number done) → slice_get new at ≡ Some (Serving number done)

-- a noted call has a report
abbrev pub HasCall : List SessionDone → Option CallNote → Type 0
HasCall reports None = Unit {0}
HasCall reports (Some n) = IsSome (call_at reports (Some n))

-- this place isn't that of a noted call's report
abbrev pub IsElsewhere : Option CallNote → ℕ → Type 0
IsElsewhere None at = Unit {0}
IsElsewhere (Some n) at = at ≢ n.at

abbrev pub KeepsOthers : Option CallNote → List SessionDone → List SessionDone → Type 0
KeepsOthers note old new = (at : ℕ) → IsElsewhere note at → slice_get new at ≡ slice_get old at
