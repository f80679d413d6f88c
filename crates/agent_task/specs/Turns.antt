-- What a turn of the task of an agent returns.
use Rattle.std.specs.Prelude.{◌≡◌, ◌≢◌, ◌⊎◌, [], None}
use Rattle.task_duties.specs.TaskOwes.{TaskOwes, TaskGiven, NoMemory}
use Rattle.task_duties.specs.TaskOwes as duty
use Rattle.task_duties.specs.GivenEnds.{all_retired}
use Rattle.task_duties.specs.Agent.Given.{AgentPlan}
use Rattle.agent_task.specs.Owing.{report_of}
use Rattle.agent_task.specs.Telling.{TellsAll}
use Rattle.agent_task.specs.Moving.{TurnsChannel, KeepsChannel}
use Rattle.agent_task.specs.State.{AgentState, task_given, TellsSoFar, TurnsEach}
use Rattle.task_duties.specs.declared.ends.TaskTurn.{TaskTurn}
use Rattle.agent_task.specs.declared.task.AgentDone.{AgentDone}
use Rattle.task_duties.specs.declared.ends.TaskTurn.TheVariants as turn

-- a task that goes on owes what it owed, and a task that is done, or that memory ran out for, gives that
abbrev pub Pays : TaskGiven → TaskTurn AgentState AgentDone → Type 0
Pays given (turn.Again task) = task_given task ≡ given
Pays given (turn.Done done) = TaskOwes given (duty.AgentDone (report_of done))
Pays given (turn.NoMemory ends) = TaskOwes given (NoMemory (all_retired ends.items))

-- what a task has reported, one that goes on so far
abbrev pub Tells : AgentPlan → TaskTurn AgentState AgentDone → Type 0
Tells plan (turn.Again task) = TellsSoFar task
Tells plan (turn.Done done) = TellsAll plan done
Tells plan (turn.NoMemory ends) = Unit {0}

-- A task goes on only while its control channel is up or a session is open. Each session that had begun took its turn. If the channel is up, bytes came on it or none were there, and what wasn't said has its reason.
-- Up or over, it keeps its bytes, and it stays over once it is.
abbrev pub GoesOn : AgentState → TaskTurn AgentState AgentDone → Type 0
GoesOn before (turn.Again task) = ((task.over ≡ None) ⊎ (task.opened ≢ [])) × TurnsEach before.sessions task.sessions
    × (task.over ≡ None → TurnsChannel task.pages before.channel task.channel) × KeepsChannel before.over task.over before.channel task.channel
GoesOn before (turn.Done done) = Unit {0}
GoesOn before (turn.NoMemory ends) = Unit {0}
