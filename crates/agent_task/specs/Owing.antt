-- What an agent that is done gives, as contracts see it.
-- Source: this project's own.
use Rattle.task_duties.specs.TaskOwes.{TaskOwes, Agent, AgentDone as IsDone, AgentReport}
use Rattle.task_duties.specs.GivenEnds.{all_retired}
use Rattle.agent_task.specs.declared.agent.Given.{Given}
use Rattle.agent_task.specs.declared.task.AgentDone.{AgentDone}
use Rattle.agent_task.specs.Given.{plan_of, ends_of}

abbrev pub report_of : AgentDone → AgentReport
report_of done = record { domain = done.domain; calls = done.calls.items; served = done.served.items; control = done.control; ends = all_retired done.ends.items }

-- it is what the agent owes for what it was given
abbrev pub IsOwed : Given → AgentDone → Type 0
IsOwed g done = TaskOwes (Agent (plan_of g) (ends_of g)) (IsDone (report_of done))
