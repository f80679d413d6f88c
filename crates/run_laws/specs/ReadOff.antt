-- The report that is read off a run: a line for each call, by the end that its agent reports and by the journal.
-- Source: this project's own.
use Rattle.std.specs.Prelude.{◌≡◌, ℕ, suc, ◌==◌, ◌&&◌, bytes_eq, true, false, List, [], ◌∷◌, map, filter_map, is_some, Option, Some, None, option_and_then, IsPermutation, AllPairs, if◌then◌else◌}
use Rattle.std.specs.Option.{option_or}
use Rattle.std.specs.List.{AllZip as EachPair}
use Rattle.call_broker.specs.declared.decision.Entry.{Entry}
use Rattle.call_broker.specs.declared.event.Event.{Event}
use Rattle.call_broker.specs.declared.event.Event.TheVariants.{Trigger}
use Rattle.call_broker.specs.declared.decision.Cause.{Cause}
use Rattle.call_broker.specs.declared.decision.Cause.TheVariants.{NoDomain, SameDomain, NoService}
use Rattle.call_broker.specs.declared.decision.Decision.{Decision}
use Rattle.call_broker.specs.declared.decision.Decision.TheVariants.{Refused}
use Rattle.end_view.specs.Settled.{Settled}
use Rattle.qrexec_data.specs.declared.outcome.Outcome.{Outcome}
use Rattle.qrexec_data.specs.declared.outcome.Outcome.TheVariants as outcome
use Rattle.scenario_file.specs.Scenario.{Plan as Scenario, domain_named, hostile_at, name_at, is_mixed}
use Rattle.scenario_file.specs.declared.scenario.CallPlan.{CallPlan}
use Rattle.scenario_file.specs.declared.line.LineCause.TheVariants as line_cause
use Rattle.scenario_file.specs.Lines.{lines, without_hostile}
use Rattle.task_duties.specs.declared.place.PagePlace.{PagePlace}
use Rattle.task_duties.specs.declared.place.PagePlace.TheVariants.{Control, Payload}
use Rattle.task_duties.specs.Places.{is_place}
use Rattle.task_duties.specs.Words.{ident_of}
use Rattle.task_duties.specs.declared.done.CallerDone.{CallerDone}
use Rattle.task_duties.specs.Agent.Owes.{caller_done}
use Rattle.task_duties.specs.declared.done.CallDone.{CallDone}
use Rattle.task_duties.specs.declared.done.CallEnd.{CallEnd}
use Rattle.task_duties.specs.declared.done.CallEnd.TheVariants.{Session, Refused as WasRefused, Unanswered}
use Rattle.run_laws.specs.Laid.{laid}
use Rattle.run_laws.specs.declared.report.MixedOutcome.{MixedOutcome}
use Rattle.run_laws.specs.declared.report.CallResult.{CallResult}
use Rattle.run_laws.specs.declared.report.CallResult.TheVariants.{Done as IsDone, Refused as IsRefused, Mixed as IsMixed}
use Rattle.run_laws.specs.declared.report.CallLine.{CallLine}
use Rattle.run_laws.specs.declared.report.ServedLine.{ServedLine}
use Rattle.run_laws.specs.Report.{SettledPage, Report, plain_line}
use Rattle.run_laws.specs.declared.report.MixedOutcome.TheVariants as mixed
use Rattle.run_laws.specs.Run.{Run, IsRun}
use Rattle.run_laws.specs.Lawful.{Ports, AreApart, CallStands, ControlStands, ToldAs, LiesAt, IsLineOf, has_page, ExecAt, hostile_execs, comes_before, IsServed, IsLawful}

-- the end that an agent reports of the call with a number
abbrev pub end_in : List CallDone → ℕ → CallEnd
end_in [] number = Unanswered
end_in (c ∷ calls) number = if c.number == number then c.end else end_in calls number

-- the end of a call in a run
abbrev pub end_of_call : Run → CallPlan → CallEnd
end_of_call run call = end_in (run.calls call.from) call.number

-- the cause for which a call of a domain was refused, by the journal
abbrev pub cause_by : ℕ → List ℕ → Event → Decision → Option Cause
cause_by d ident (Trigger from target service i) (Refused cause) = if from == d && bytes_eq i ident then Some cause else None
cause_by d ident event decision = None

-- the first such cause of a journal
abbrev pub cause_in : List Entry → ℕ → List ℕ → Option Cause
cause_in [] d ident = None
cause_in (x ∷ journal) d ident = option_or (cause_by d ident x.event x.decision) (cause_in journal d ident)

-- the place of a page in the list of pages
abbrev pub index_of : PagePlace → List PagePlace → ℕ
index_of place [] = 0
index_of place (p ∷ places) = if is_place place p then 0 else suc (index_of place places)

-- ---- results

-- an outcome without what is wrong with the bytes
abbrev pub mixed_outcome : Outcome → MixedOutcome
mixed_outcome (outcome.Done code) = mixed.Done code
mixed_outcome (outcome.Fault fault) = mixed.Fault
mixed_outcome outcome.Closed = mixed.Closed
mixed_outcome outcome.Gone = mixed.Gone

-- of a session: done with the place of its page, or as it came out
abbrev pub session_result : Scenario → CallPlan → ℕ → ℕ → CallerDone → Outcome → CallResult
session_result s call port to done (outcome.Done code) = IsDone code done.stdout done.stderr (index_of (Payload call.from to port) (laid s))
session_result s call port to done other = IsMixed (mixed_outcome other) done.got

-- of a refusal: a cause that the names and services give, else a refusal by the broker's tables
abbrev pub cause_result : Option Cause → CallResult
cause_result (Some NoDomain) = IsRefused line_cause.NoDomain
cause_result (Some SameDomain) = IsRefused line_cause.SameDomain
cause_result (Some NoService) = IsRefused line_cause.NoService
cause_result cause = IsMixed mixed.Refused []

-- of a call whose target isn't hostile
abbrev pub plain_end : Scenario → Run → CallPlan → CallEnd → CallResult
plain_end s run call (Session port to outcome stdout stderr got) = session_result s call port to (caller_done outcome stdout stderr got) outcome
plain_end s run call WasRefused = cause_result (cause_in run.journal call.from (ident_of call.number))
plain_end s run call Unanswered = IsMixed mixed.Closed []

-- of a call whose target is hostile
abbrev pub mixed_end : CallEnd → CallResult
mixed_end (Session port to outcome stdout stderr got) = IsMixed (mixed_outcome outcome) got
mixed_end WasRefused = IsMixed mixed.Refused []
mixed_end Unanswered = IsMixed mixed.Closed []

-- of any call
abbrev pub result_of : Scenario → Run → CallPlan → CallResult
result_of s run call = if is_mixed s call then mixed_end (end_of_call run call) else plain_end s run call (end_of_call run call)

-- the line of a call
abbrev pub line_read : Scenario → Run → CallPlan → CallLine
line_read s run call = record { number = call.number; from = name_at s call.from; to = call.to; service = call.service; result = result_of s run call }

-- a page of the run
abbrev pub page_read : Run → PagePlace → SettledPage
page_read run place = record { place = place; settled = run.page place }

-- the report with these lines of sessions with hostile callers
abbrev pub report_of : Scenario → Run → List ServedLine → Report
report_of s run served = record { calls = map (line_read s run) s.calls; served = served; pages = map (page_read run) (laid s) }

-- ---- the pages of the calls

-- the port of a session
abbrev pub port_of_end : CallEnd → Option ℕ
port_of_end (Session port to outcome stdout stderr got) = Some port
port_of_end end = None

-- the call of a number
abbrev pub call_numbered : List CallPlan → ℕ → Option CallPlan
call_numbered [] number = None
call_numbered (c ∷ calls) number = if c.number == number then Some c else call_numbered calls number

-- the ports of the calls of a run, by their numbers
abbrev pub ports_of : Scenario → Run → Ports
ports_of s run = λ number. option_and_then (λ call. port_of_end (end_of_call run call)) (call_numbered s.calls number)

-- ---- the points of a lawful report that speak of honest domains

-- what a lawful report says of the lines of calls to domains that aren't hostile and of control pages, and one choice of ports for all calls
pub record IsLawfulHonest (s : Scenario) (r : Report) (ports : Ports) : Type 0 where
  pub calls : EachPair (IsLineOf s) s.calls r.calls
  pub results : filter_map plain_line r.calls ≡ lines (without_hostile s)
  pub apart : AreApart s ports
  pub stand : EachPair (λ call l. is_mixed s call ≡ false → CallStands s r ports call l) s.calls r.calls
  pub paged : EachPair (λ call l. is_some (ports call.number) ≡ has_page l.result) s.calls r.calls
  pub control : (d : ℕ) (page : Settled) → LiesAt r (Control d) page → hostile_at s d ≡ false → ControlStands s ports d page
  pub told : EachPair (λ call l. is_mixed s call ≡ false → (to : ℕ) → domain_named s call.to ≡ Some to → ToldAs s r ports call to l.result) s.calls r.calls

-- ---- the law of the report

-- a lawful report can be read off a run, with some lines of sessions with hostile callers
pub record HasLawfulReport (s : Scenario) (run : Run) : Type 0 where
  pub served : List ServedLine
  pub lawful : IsLawful s (report_of s run served)

-- a lawful report can be read off each run
abbrev pub ReportsAreLawful : Type 0
ReportsAreLawful = (s : Scenario) (run : Run) → IsRun s run → HasLawfulReport s run

-- the report of a run is lawful with any lines that stand, one for each such session, in order
abbrev pub SortedReportsAreLawful : Type 0
SortedReportsAreLawful =
    (s : Scenario) (run : Run) → IsRun s run → (served : List ServedLine) (execs : List ExecAt) → IsPermutation execs (hostile_execs s (report_of s run served))
    → AllPairs (λ a b. comes_before a b ≡ true) execs → EachPair (IsServed s (report_of s run served)) execs served → IsLawful s (report_of s run served)
