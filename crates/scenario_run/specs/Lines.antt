-- The lines of the calls of a run, by what the tasks report.
-- Source: this project's own.
use Rattle.std.specs.Prelude.{◌≡◌, ℕ, ◌==◌, List, [], filter, slice_get, Some}
use Rattle.std.specs.List.{AllZip as EachPair}
use Rattle.call_broker.specs.declared.decision.Entry.{Entry}
use Rattle.qrexec_data.specs.declared.outcome.Outcome.{Outcome}
use Rattle.qrexec_data.specs.declared.outcome.Outcome.TheVariants as outcome
use Rattle.scenario_file.specs.Scenario.{Plan as Scenario}
use Rattle.scenario_file.specs.declared.scenario.CallPlan.{CallPlan}
use Rattle.task_duties.specs.declared.done.CallDone.{CallDone}
use Rattle.task_duties.specs.declared.done.CallEnd.{CallEnd}
use Rattle.task_duties.specs.declared.done.CallEnd.TheVariants.{Session, Refused, Unanswered}
use Rattle.task_duties.specs.declared.place.PagePlace.{PagePlace}
use Rattle.task_duties.specs.declared.place.PagePlace.TheVariants.{Payload}
use Rattle.task_duties.specs.Words.{ident_of}
use Rattle.run_laws.specs.declared.report.CallResult.{CallResult}
use Rattle.run_laws.specs.declared.report.CallResult.TheVariants.{Done, Mixed}
use Rattle.run_laws.specs.declared.report.MixedOutcome.TheVariants as mixed
use Rattle.run_laws.specs.Run.{Run}
use Rattle.run_laws.specs.ReadOff.{cause_in, cause_result, end_of_call, index_of, mixed_outcome}
use Rattle.scenario_run.specs.Parts.{ReportPart}

-- what is reported of a call is its end in the run
pub record IsEndOf (run : Run) (call : CallPlan) (done : CallDone) : Type 0 where
  pub end : done.end ≡ end_of_call run call

-- each of these calls is reported by its caller, in order, and the journal is the run's
pub record HasReports (s : Scenario) (run : Run) (calls : List CallPlan) (reports : List ReportPart) : Type 0 where
  pub journal : (part : ReportPart) × (slice_get reports 0 ≡ Some part) × (part.journal ≡ run.journal)
  pub each : (d : ℕ) (part : ReportPart) → slice_get reports d ≡ Some part → EachPair (IsEndOf run) (filter (λ call. call.from == d) calls) part.calls

-- what comes of a session, with these pages
abbrev pub session_end : List PagePlace → CallPlan → ℕ → ℕ → Outcome → List ℕ → List ℕ → List ℕ → CallResult
session_end places call port to (outcome.Done code) stdout stderr got = Done code stdout stderr (index_of (Payload call.from to port) places)
session_end places call port to other stdout stderr got = Mixed (mixed_outcome other) got

-- what comes of a call whose target isn't hostile
abbrev pub plain_result : List PagePlace → List Entry → CallPlan → CallEnd → CallResult
plain_result places journal call (Session port to outcome stdout stderr got) = session_end places call port to outcome stdout stderr got
plain_result places journal call Refused = cause_result (cause_in journal call.from (ident_of call.number))
plain_result places journal call Unanswered = Mixed mixed.Closed []
