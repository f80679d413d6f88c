-- What a task of a run owes, and what a turn of it returns.
-- Source: this project's own.
use Rattle.std.specs.Prelude.{◌≡◌}
use Rattle.task_duties.specs.GivenEnds.{all_retired}
use Rattle.task_duties.specs.TaskOwes.{TaskGiven, TaskDone as Answer, AgentDone, BrokerDone, HostileDone, NoMemory as NoAnswer, TaskOwes}
use Rattle.task_pool.specs.declared.task.Turn.{Turn}
use Rattle.task_pool.specs.declared.task.Turn.TheVariants as turn
use Rattle.domain_task.specs.declared.done.TaskDone.{TaskDone}
use Rattle.domain_task.specs.declared.done.TaskDone.TheVariants.{Agent, Broker, Hostile, NoMemory}
use Rattle.domain_task.specs.declared.task.Task.{Task}
use Rattle.domain_task.specs.Given.{given_of}

-- what a task gives when it is done, in the form that the duties of tasks have
abbrev pub answer_of : TaskDone → Answer
answer_of (Agent done) = AgentDone (record { domain = done.domain; calls = done.calls.items; served = done.served.items; control = done.control; ends = all_retired done.ends.items })
answer_of (Broker done) = BrokerDone done.broker (all_retired done.ends.items)
answer_of (Hostile done) = HostileDone done.domain (all_retired done.ends.items)
answer_of (NoMemory ends) = NoAnswer (all_retired ends.items)

-- a task owes something for what it was given, and for nothing else
abbrev pub Owes : Task → TaskDone → Type 0
Owes task done = TaskOwes (given_of task) (answer_of done)

-- a task that goes on was given the same, and a task that is done gives what is owed for that
abbrev pub PaysFor : TaskGiven → Turn Task TaskDone → Type 0
PaysFor given (turn.Again task) = given_of task ≡ given
PaysFor given (turn.Done done) = TaskOwes given (answer_of done)
