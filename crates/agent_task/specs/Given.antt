-- What the task of an agent was given, as contracts see it.
-- Source: this project's own.
use Rattle.std.specs.Prelude.{List}
use Rattle.vchan_rule.specs.Seated.{view}
use Rattle.task_duties.specs.Agent.Given.{AgentPlan}
use Rattle.task_duties.specs.TaskOwes.{TaskGiven, EndAt, Agent as AgentWith, places_in, all_ends}
use Rattle.task_duties.specs.GivenEnds.{all_given}
use Rattle.agent_task.specs.declared.agent.Given.{Given}

-- the data ends as they were given
abbrev pub data_ends : Given → List EndAt
data_ends g = all_given g.payload.value.items

-- its plan, and all its ends
abbrev pub plan_of : Given → AgentPlan
plan_of g = record { domain = g.domain; version = g.version; calls = g.calls.value.items; places = places_in (data_ends g) }

abbrev pub ends_of : Given → List EndAt
ends_of g = all_ends g.domain (view g.control.value) (data_ends g)

abbrev pub given_of : Given → TaskGiven
given_of g = AgentWith (plan_of g) (ends_of g)
