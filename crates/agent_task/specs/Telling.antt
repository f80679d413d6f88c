-- What an agent that is done has reported, beside what it owes.
-- Source: this project's own.
use Rattle.std.specs.Prelude.{◌≡◌, ◌↔◌, ℕ, List, filter_map, slice_get, Some}
use Rattle.list_laws.specs.Lists.{IsPartOf}
use Rattle.qrexec_frame.specs.declared.message.Message.{Message}
use Rattle.end_view.specs.EndView.{EndView}
use Rattle.qrexec_data.specs.declared.outcome.SessionFault.{SessionFault}
use Rattle.task_duties.specs.declared.place.PagePlace.TheVariants.{Control}
use Rattle.task_duties.specs.declared.done.ControlEnd.{ControlEnd}
use Rattle.task_duties.specs.declared.done.ControlEnd.TheVariants.{Fault}
use Rattle.task_duties.specs.Hearing.{to_agent, to_broker, IsSaid, Heard, hears}
use Rattle.task_duties.specs.TaskOwes.{EndAt}
use Rattle.task_duties.specs.GivenEnds.{all_retired}
use Rattle.task_duties.specs.Agent.Given.{AgentPlan}
use Rattle.task_duties.specs.Agent.Answers.{answers}
use Rattle.agent_task.specs.declared.task.AgentDone.{AgentDone}
use Rattle.agent_task.specs.Ends.{session_told, sessions_owed}

-- what it heard at its control end
abbrev pub heard_on : AgentPlan → EndView → Heard
heard_on plan control = hears plan.version to_agent control.got

-- the sessions whose end it owes to report, by what it heard there
abbrev pub owed_on : AgentPlan → EndView → List (ℕ × ℕ)
owed_on plan control = sessions_owed (answers plan (heard_on plan control).messages).asked (heard_on plan control).messages

-- the end of each of them was reported at most once, and that of no other
pub record TellsOnce (plan : AgentPlan) (control : EndView) : Type 0 where
  pub said : List Message
  pub says : IsSaid plan.version to_broker said control.sent
  pub told : IsPartOf (filter_map session_told said) (owed_on plan control)

-- by its control end and what it reports of that
pub record TellsOf (plan : AgentPlan) (control : EndView) (how : ControlEnd) : Type 0 where
  pub once : TellsOnce plan control
  -- a fault is reported if and only if what it heard is wrong in that way
  pub fault : (fault : SessionFault) → (how ≡ Fault fault) ↔ ((heard_on plan control).fault ≡ Some fault)

-- its control end is the first that it gives back
abbrev pub TellsAll : AgentPlan → AgentDone → Type 0
TellsAll plan done = (e : EndAt) × (slice_get (all_retired done.ends.items) 0 ≡ Some e) × (e.place ≡ Control plan.domain) × TellsOf plan e.view done.control
