-- What an agent owes: facts of its ends and of what it reports.
-- Source: this project's own.
use Rattle.std.specs.Prelude.{◌≡◌, ℕ, true, List, [], map, filter_map, Some, None}
use Rattle.std.specs.List.{AllByRecursion as Each, AllZip as EachPair}
use Rattle.list_laws.specs.Lists.{IsPrefixOf}
use Rattle.qrexec_frame.specs.declared.message.Message.{Message}
use Rattle.vchan_protocol.specs.declared.side.EndedBy.TheVariants.{AllRead, PeerGone}
use Rattle.end_view.specs.EndView.{EndView}
use Rattle.qrexec_data.specs.declared.outcome.Outcome.{Outcome}
use Rattle.scenario_file.specs.declared.scenario.CallPlan.{CallPlan}
use Rattle.task_duties.specs.declared.place.PagePlace.{PagePlace}
use Rattle.task_duties.specs.declared.place.PagePlace.TheVariants.{Control, Payload}
use Rattle.task_duties.specs.declared.done.CallDone.{CallDone}
use Rattle.task_duties.specs.declared.done.CallEnd.{CallEnd}
use Rattle.task_duties.specs.declared.done.CallEnd.TheVariants.{Session, Refused, Unanswered}
use Rattle.task_duties.specs.declared.done.ServedDone.{ServedDone}
use Rattle.task_duties.specs.declared.done.ControlEnd.{ControlEnd}
use Rattle.task_duties.specs.declared.done.ControlEnd.TheVariants.{Drained, Gone, Fault}
use Rattle.task_duties.specs.Hearing.{to_agent, to_broker, IsSaid, Heard, hears}
use Rattle.task_duties.specs.Agent.Given.{AgentPlan}
use Rattle.task_duties.specs.Agent.Answers.{Answer, Waits, IsRefused, At, Asked, Served, Answers, answers, answer_in}
use Rattle.task_duties.specs.declared.done.CallerDone.{CallerDone}
use Rattle.task_duties.specs.Agent.Sessions.{CallerOwes, ServingOwes}
use Rattle.task_duties.specs.Agent.Saying.{asking, asking_of, IsOfVersion, KeepsTo, IsTold}

-- what it reports of the session of a call
abbrev pub caller_done : Outcome → List ℕ → List ℕ → List ℕ → CallerDone
caller_done outcome stdout stderr got = record { outcome = outcome; stdout = stdout; stderr = stderr; got = got }

-- what it reports of a call fits the call's answer, where `end` gives each of its ends
abbrev pub ReportsAnswer : AgentPlan → (PagePlace → EndView) → CallPlan → Answer → CallEnd → Type 0
ReportsAnswer plan end call Waits Unanswered = Unit {0}
ReportsAnswer plan end call IsRefused Refused = Unit {0}
ReportsAnswer plan end call (At to port) (Session port' to' outcome stdout stderr got) =
    (port' ≡ port) × (to' ≡ to) × CallerOwes plan.version call.stdin (caller_done outcome stdout stderr got) (end (Payload plan.domain to port))
ReportsAnswer plan end call _ _ = ⊥

-- what it reports of a call
abbrev pub ReportsCall : AgentPlan → (PagePlace → EndView) → Asked → CallDone → Type 0
ReportsCall plan end a done = (done.number ≡ a.call.number) × ReportsAnswer plan end a.call a.answer done.end

-- what it reports of a session in which it served
abbrev pub ReportsServed : AgentPlan → (PagePlace → EndView) → Served → ServedDone → Type 0
ReportsServed plan end x done =
    (done.from ≡ x.from) × (done.port ≡ x.port) × ServingOwes plan.version x.service done.outcome done.got (end (Payload x.from plan.domain x.port))

-- what it reports of its control channel
abbrev pub ControlOver : EndView → Heard → ControlEnd → Type 0
ControlOver control heard Drained = (control.saw ≡ true) × (control.ended ≡ Some AllRead)
ControlOver control heard Gone = (control.saw ≡ true) × (control.ended ≡ Some PeerGone)
ControlOver control heard (Fault fault) = heard.fault ≡ Some fault

-- what it heard on its control channel
abbrev pub heard_by : AgentPlan → (PagePlace → EndView) → Heard
heard_by plan end = hears plan.version to_agent (end (Control plan.domain)).got

-- what it made of that
abbrev pub answers_of : AgentPlan → (PagePlace → EndView) → Answers
answers_of plan end = answers plan (heard_by plan end).messages

-- what an agent with these reports of its calls, of what it served and of its control channel owes
pub record AgentOwes (plan : AgentPlan) (end : PagePlace → EndView) (calls : List CallDone) (served : List ServedDone) (control : ControlEnd) : Type 0 where
  --   what it sent: the triggers of its calls, in their order, as far as it came, each of the agreed version, and nothing before that
  pub said : List Message
  pub says : IsSaid plan.version to_broker said (end (Control plan.domain)).sent
  pub in_order : IsPrefixOf (filter_map asking said) (map asking_of plan.calls)
  pub of_version : Each (IsOfVersion (heard_by plan end).version) said
  pub greeted : (heard_by plan end).version ≡ None → said ≡ []
  -- no target ever has more than sixteen open calls
  pub keeps : (target : List ℕ) → KeepsTo (answer_in (answers_of plan end).asked) target [] said
  -- it tells the end of calls that it was asked for, or had asked for
  pub told : Each (IsTold (answers_of plan end).asked (heard_by plan end).messages) said
  -- what it reports
  pub over : ControlOver (end (Control plan.domain)) (heard_by plan end) control
  pub reports : EachPair (ReportsCall plan end) (answers_of plan end).asked calls
  pub serves : EachPair (ReportsServed plan end) (answers_of plan end).served served
