-- A task of a run as its pool sees it: what it is, what it owes, and what a turn of it is.
-- Source: this project's own.
use Rattle.std.specs.Prelude.{◌≡◌, ◌⊎◌, Vec}
use Rattle.std.specs.Global.{Global}
use Rattle.task_pool.specs.declared.task.Turn.{Turn}
use Rattle.task_pool.specs.declared.task.Turn.TheVariants.{Again, Done}
use Rattle.task_duties.specs.declared.ends.RetiredEnd.{RetiredEnd}
use Rattle.task_duties.specs.TaskOwes.{TaskGiven, TaskOwes}
use Rattle.agent_task.specs.Starting as agent
use Rattle.broker_task.specs.Starting as broker
use Rattle.hostile_task.specs.Turns.{HasDone}
use Rattle.domain_task.specs.declared.done.TaskDone.{TaskDone}
use Rattle.domain_task.specs.declared.done.TaskDone.TheVariants.{NoMemory}
use Rattle.domain_task.specs.declared.task.Task.{Task}
use Rattle.domain_task.specs.declared.task.Task.TheVariants.{Agent, Broker, Hostile}
use Rattle.domain_task.specs.Given.{given_of}
use Rattle.domain_task.specs.Owes.{answer_of}
use Rattle.domain_task.specs.Turning.{TaskTurns}
use Rattle.domain_task.specs.Working.{Works}

-- it waits to be made of what it is given, or is the task that was made
pub data RunState : Type 0 where
  Waits : TaskGiven → RunState
  Runs : Task → RunState

-- what it is given
abbrev pub given_in : RunState → TaskGiven
given_in (Waits given) = given
given_in (Runs task) = given_of task

-- it owes something for what it is given, and for nothing else
abbrev pub Owes : RunState → TaskDone → Type 0
Owes state done = TaskOwes (given_in state) (answer_of done)

-- a task that was just made, and has done nothing yet
abbrev pub IsNew : Task → Type 0
IsNew (Agent task) = agent.IsNewTask task
IsNew (Broker task) = broker.IsNewTask task
IsNew (Hostile task) = (task.acts ≡ 0) × (task.turns ≡ 0) × HasDone task

-- the task that makes the next turn: the one that was made, or a new one of what was given
abbrev pub IsOf : RunState → Task → Type 0
IsOf (Waits given) task = (given_of task ≡ given) × IsNew task
IsOf (Runs made) task = task ≡ made

-- this task made one turn, as its own crate tells of it, and goes on as it is after that
abbrev pub MakesTurn : Task → Turn RunState TaskDone → Type 0
MakesTurn task (Again (Runs now)) = TaskTurns task (Again now) × Works task (Again now)
MakesTurn task (Again (Waits given)) = ⊥
MakesTurn task (Done done) = TaskTurns task (Done done)

-- its task made one turn; or it is done since memory ran out
abbrev pub RunTurns : RunState → Turn RunState TaskDone → Type 0
RunTurns state result = ((task : Task) × IsOf state task × MakesTurn task result) ⊎ ((ends : Vec RetiredEnd Global) × (result ≡ Done (NoMemory ends)))
