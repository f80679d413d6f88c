-- What a task of a run was given, whether it is an agent, the broker or a hostile domain.
-- Source: this project's own.
use Rattle.task_duties.specs.TaskOwes.{TaskGiven, Agent as AgentGiven, Broker as BrokerGiven, Hostile as HostileGiven}
use Rattle.domain_task.specs.declared.task.Task.{Task}
use Rattle.domain_task.specs.declared.task.Task.TheVariants.{Agent, Broker, Hostile}

-- what a task was given
abbrev pub given_of : Task → TaskGiven
given_of (Agent task) = AgentGiven task.plan task.ends
given_of (Broker task) = BrokerGiven task.hub task.awaited task.ends
given_of (Hostile task) = HostileGiven task.plan task.ends
