-- What a turn of the task of the broker returns.
use Rattle.std.specs.Prelude.{◌≡◌, List, map}
use Rattle.std.specs.List.{AllZip as EachPair}
use Rattle.task_duties.specs.TaskOwes.{TaskGiven, TaskOwes, NoMemory}
use Rattle.task_duties.specs.TaskOwes as duty
use Rattle.task_duties.specs.GivenEnds.{all_retired}
use Rattle.broker_task.specs.declared.switchboard.Switchboard.{Switchboard}
use Rattle.task_duties.specs.declared.ends.TaskTurn.{TaskTurn}
use Rattle.broker_task.specs.declared.task.BrokerDone.{BrokerDone}
use Rattle.task_duties.specs.declared.ends.TaskTurn.TheVariants as turn
use Rattle.broker_task.specs.Given.{BrokerState, ends_now, task_given, retired_end, IsRetiredOf}
use Rattle.broker_task.specs.Moving.{BrokerLine, line_of, HasTurned}
use Rattle.broker_task.specs.Holding.{HoldsForExecs, NoneIsLost, ShutAreDropped, PortsStand}
use Rattle.broker_task.specs.Standing.{Stands, AreSettled}

-- a task that goes on owes what it owed, and a task that is done gives that; if memory ran out, the task gives all its ends back
abbrev pub Pays : TaskGiven → TaskTurn BrokerState BrokerDone → Type 0
Pays given (turn.Again task) = task_given task ≡ given
Pays given (turn.Done done) = TaskOwes given (duty.BrokerDone done.broker (all_retired done.ends.items))
Pays given (turn.NoMemory ends) = TaskOwes given (NoMemory (all_retired ends.items))

-- each domain was attended to; and where the task goes on, not all of them are settled, no letter is lost, none is held that may go, just the domains that were dropped are shut, and each port stands for what was said and heard
abbrev pub StandsAfter : TaskTurn BrokerState BrokerDone → Type 0
StandsAfter (turn.Again task) =
    (stands : Stands task.hub task.journal (ends_now task)) × (AreSettled task.hub task.awaited task.journal stands.said → ⊥)
    × NoneIsLost task.hub task.journal stands.said task.lines × HoldsForExecs task.lines × ShutAreDropped task.journal task.lines × PortsStand stands.said task.lines
StandsAfter (turn.Done done) = Stands done.broker.hub done.broker.journal (map retired_end done.ends.items)
StandsAfter (turn.NoMemory ends) = Unit {0}

-- where the task goes on, each domain moved, was quiet or is dropped
abbrev pub TurnsEach : List BrokerLine → TaskTurn BrokerState BrokerDone → Type 0
TurnsEach before (turn.Again task) = EachPair HasTurned before task.lines
TurnsEach before other = Unit {0}

-- where the task goes on, it keeps just this for each domain
abbrev pub KeepsLines : Switchboard → TaskTurn BrokerState BrokerDone → Type 0
KeepsLines s (turn.Again task) = task.lines ≡ map line_of s.daemons.items
KeepsLines s other = Unit {0}

-- a task that is done gives its broker and all ends in their order
abbrev pub Finishes : Switchboard → TaskTurn BrokerState BrokerDone → Type 0
Finishes s (turn.Again task) = ⊥
Finishes s (turn.Done done) = (done.broker ≡ s.broker) × EachPair IsRetiredOf s.daemons.items done.ends.items
Finishes s (turn.NoMemory ends) = ⊥
