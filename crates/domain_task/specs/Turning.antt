-- What a turn of a task of a run found and did, by the kind of the task: the turns of its own crate, as turns of a task.
-- Source: this project's own.
use Rattle.task_pool.specs.declared.task.Turn.{Turn}
use Rattle.task_pool.specs.declared.task.Turn.TheVariants as turn
use Rattle.task_duties.specs.declared.ends.TaskTurn.TheVariants as own
use Rattle.agent_task.specs.State.{AgentState}
use Rattle.agent_task.specs.Turns.{Tells, GoesOn}
use Rattle.broker_task.specs.Given.{BrokerState}
use Rattle.broker_task.specs.Turns.{StandsAfter, TurnsEach}
use Rattle.hostile_task.specs.Plan.{HostileState}
use Rattle.hostile_task.specs.Turns.{Pays}
use Rattle.domain_task.specs.declared.done.TaskDone.{TaskDone}
use Rattle.domain_task.specs.declared.done.TaskDone.TheVariants as done
use Rattle.domain_task.specs.declared.task.Task.{Task}
use Rattle.domain_task.specs.declared.task.Task.TheVariants.{Agent, Broker, Hostile}

-- an agent: what it has reported, and of its control channel and each of its sessions what moved, or why nothing did
abbrev pub AgentTurns : AgentState → Turn Task TaskDone → Type 0
AgentTurns before (turn.Again (Agent now)) = Tells before.plan (own.Again now) × GoesOn before (own.Again now)
AgentTurns before (turn.Done (done.Agent answer)) = Tells before.plan (own.Done answer)
AgentTurns before (turn.Done (done.NoMemory ends)) = Unit {0}
AgentTurns before other = ⊥

-- the broker: how each domain stands, and what was heard from it or said to it, or why nothing was
abbrev pub BrokerTurns : BrokerState → Turn Task TaskDone → Type 0
BrokerTurns before (turn.Again (Broker now)) = StandsAfter (own.Again now) × TurnsEach before.lines (own.Again now)
BrokerTurns before (turn.Done (done.Broker answer)) = StandsAfter (own.Done answer)
BrokerTurns before (turn.Done (done.NoMemory ends)) = Unit {0}
BrokerTurns before other = ⊥

-- a hostile domain: one turn of its acts is done, or none was left
abbrev pub HostileTurns : HostileState → Turn Task TaskDone → Type 0
HostileTurns before (turn.Again (Hostile now)) = Pays before (own.Again now)
HostileTurns before (turn.Done (done.Hostile answer)) = Pays before (own.Done answer)
HostileTurns before (turn.Done (done.NoMemory ends)) = Pays before (own.NoMemory ends)
HostileTurns before other = ⊥

-- a task goes on as one of its own kind
abbrev pub TaskTurns : Task → Turn Task TaskDone → Type 0
TaskTurns (Agent before) result = AgentTurns before result
TaskTurns (Broker before) result = BrokerTurns before result
TaskTurns (Hostile before) result = HostileTurns before result
