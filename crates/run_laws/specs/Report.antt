-- The report of a run.
-- Source: this project's own.
use Rattle.std.specs.Prelude.{◌≡◌, ℕ, List, [], true, Option, Some, None, IsSome}
use Rattle.end_view.specs.Settled.{Settled}
use Rattle.scenario_file.specs.declared.line.Line.{Line}
use Rattle.scenario_file.specs.declared.line.LineResult.{LineResult}
use Rattle.scenario_file.specs.declared.line.LineResult.TheVariants as line
use Rattle.task_duties.specs.declared.place.PagePlace.{PagePlace}
use Rattle.qrexec_data.specs.Seeing.{Verdict, Undecided, Exited, Faulty, caller_sees, serving_sees}
use Rattle.run_laws.specs.declared.report.CallLine.{CallLine}
use Rattle.run_laws.specs.declared.report.CallResult.{CallResult}
use Rattle.run_laws.specs.declared.report.CallResult.TheVariants as result
use Rattle.run_laws.specs.declared.report.ServedLine.{ServedLine}
use Rattle.run_laws.specs.declared.report.MixedOutcome.{MixedOutcome}
use Rattle.run_laws.specs.declared.report.MixedOutcome.TheVariants.{Done, Refused, Fault, Closed, Gone}
use Rattle.service_gate.specs.ServiceResult.{IsSmallCode}

-- a page that is done with, and where it lay
pub record SettledPage : Type 0 where
  pub place : PagePlace
  pub settled : Settled

-- a report as contracts see it: the lines of the calls, those of the sessions with hostile callers, and the pages
pub record Report : Type 0 where
  pub calls : List CallLine
  pub served : List ServedLine
  pub pages : List SettledPage

-- ---- the lines that the services and the names alone give

-- the line of a call with another result
abbrev pub with_result : CallLine → LineResult → Line
with_result l result = record { number = l.number; from = l.from; to = l.to; service = l.service; result = result }

-- a result without its page; of a call whose target is hostile there is none
abbrev pub plain_result : CallLine → CallResult → Option Line
plain_result l (result.Done code stdout stderr page) = Some (with_result l (line.Done code stdout stderr))
plain_result l (result.Refused cause) = Some (with_result l (line.Refused cause))
plain_result l (result.Mixed outcome got) = None

-- a line without its page
abbrev pub plain_line : CallLine → Option Line
plain_line l = plain_result l l.result

-- ---- which outcome fits the bytes got

-- the bytes are wrong
abbrev pub IsFaulty : Verdict → Type 0
IsFaulty (Faulty fault) = Unit {0}
IsFaulty verdict = ⊥

-- the outcome of a caller that got these bytes
abbrev pub FitsCaller : MixedOutcome → List ℕ → Type 0
FitsCaller (Done code) got = (caller_sees got).verdict ≡ Exited code
FitsCaller Fault got = IsFaulty (caller_sees got).verdict
FitsCaller Closed got = (caller_sees got).verdict ≡ Undecided
FitsCaller Gone got = (caller_sees got).verdict ≡ Undecided
FitsCaller Refused got = got ≡ []

-- the outcome of a side that served and got these bytes
abbrev pub FitsServing : MixedOutcome → List ℕ → Type 0
FitsServing (Done code) got = ((serving_sees got).fault ≡ None) × ((serving_sees got).ended ≡ true) × IsSmallCode code
FitsServing Fault got = IsSome (serving_sees got).fault
FitsServing Closed got = (serving_sees got).fault ≡ None
FitsServing Gone got = (serving_sees got).fault ≡ None
FitsServing Refused got = ⊥
