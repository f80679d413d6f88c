-- What a turn of each task of a run of relays does.
-- Source: this project's own.
use Rattle.std.specs.Prelude.{◌≡◌, ◌⊎◌, ◌-◌, ℕ, true, false, List, length, drop}
use Rattle.vchan_lifecycle.specs.Lifecycle.{retired_view}
use Rattle.vchan_lifecycle.specs.declared.DrainAnswer.{DrainAnswer}
use Rattle.vchan_rule.specs.Seated.{SeatedEnd, SeatedSide, last_view, view}
use Rattle.vchan_stream.specs.declared.WriteAnswer.{WriteAnswer}
use Rattle.vchan_stream.specs.declared.WriteAnswer.TheVariants.{PeerClosed}
use Rattle.task_pool.specs.declared.task.Turn.{Turn}
use Rattle.task_pool.specs.declared.task.Turn.TheVariants.{Again, Done}
use Rattle.vchan_relay.specs.declared.task.HopDone.{HopDone}
use Rattle.vchan_relay.specs.declared.task.HopDone.TheVariants.{Wrote, Passed, Read}
use Rattle.vchan_relay.specs.declared.task.HopTask.{HopTask}
use Rattle.vchan_relay.specs.declared.task.HopTask.TheVariants.{Writes, Passes, Reads, Over}
use Rattle.vchan_relay.specs.Relay.{RelayState}
use Rattle.vchan_relay.specs.States.{ReaderState, WriterState}
use Rattle.vchan_relay.specs.Turns.{Advances, HasDrained, HasWritten}

-- an end is retired
abbrev pub Retires : SeatedEnd → SeatedSide → Type 0
Retires left end = last_view end ≡ retired_view (view left)

-- a writer writes what it hasn't sent, and retires once it has sent all, or if its reader is shut
abbrev pub unsent : WriterState → List ℕ
unsent was = drop (length (view was.end).sent) was.bytes

abbrev pub WriterTurns : WriterState → Turn HopTask HopDone → Type 0
WriterTurns was (Again (Writes now)) = (now.bytes ≡ was.bytes) × ((answer : WriteAnswer) × HasWritten was.end answer (unsent was) now.end)
WriterTurns was (Done (Wrote end)) =
    (((view was.end).sent ≡ was.bytes) × Retires was.end end) ⊎ ((left : SeatedEnd) × HasWritten was.end PeerClosed (unsent was) left × Retires left end)
WriterTurns was other = ⊥

-- a relay makes its turns, and retires both its ends once it has ended
abbrev pub RelayTurns : RelayState → Turn HopTask HopDone → Type 0
RelayTurns was (Again (Passes now)) = Advances was now × (now.ended ≡ false)
RelayTurns was (Done (Passed near far joint)) = (left : RelayState) × Advances was left × (left.ended ≡ true) × Retires left.near near × Retires left.far far
RelayTurns was other = ⊥

-- the end that a reader gives back
abbrev pub Gives : SeatedEnd → HopDone → Type 0
Gives left (Read end bytes) = Retires left end
Gives left other = ⊥

-- a reader drains into the room that it has left, and retires if no more comes, or if it has no room left
pub record Drains (was : ReaderState) (left : SeatedEnd) : Type 0 where
  pub answer : DrainAnswer
  pub bytes : List ℕ
  pub room : length bytes ≡ was.room - length (view was.end).got
  pub drained : HasDrained was.end answer bytes left

abbrev pub ReaderTurns : ReaderState → Turn HopTask HopDone → Type 0
ReaderTurns was (Again (Reads now)) = (now.room ≡ was.room) × Drains was now.end
ReaderTurns was (Again other) = ⊥
ReaderTurns was (Done done) = (left : SeatedEnd) × Drains was left × Gives left done

-- a task that was over makes no turn more
abbrev pub HopTurns : HopTask → Turn HopTask HopDone → Type 0
HopTurns (Writes was) result = WriterTurns was result
HopTurns (Passes was) result = RelayTurns was result
HopTurns (Reads was) result = ReaderTurns was result
HopTurns (Over was) (Again now) = ⊥
HopTurns (Over was) (Done done) = done ≡ was
