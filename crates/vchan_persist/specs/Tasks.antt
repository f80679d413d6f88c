-- What a turn of each task of an epoch does.
-- Source: this project's own.
use Rattle.std.specs.Prelude.{◌≡◌}
use Rattle.vchan_rule.specs.Seated.{last_view, view}
use Rattle.channel_session.specs.declared.pause.Turned.{Turned}
use Rattle.qrexec_data.specs.CallerSide.{caller_half}
use Rattle.channel_session.specs.Session.{CallerAt, ServingAt, Turns, IsRetired, builtin_half}
use Rattle.task_pool.specs.declared.task.Turn.{Turn}
use Rattle.task_pool.specs.declared.task.Turn.TheVariants.{Again, Done}
use Rattle.vchan_persist.specs.declared.task.EpochTask.{EpochTask}
use Rattle.vchan_persist.specs.declared.task.EpochTask.TheVariants.{Calls, Scribbles, Serves, Over}
use Rattle.vchan_persist.specs.declared.task.SideDone.{SideDone}
use Rattle.vchan_persist.specs.declared.task.SideDone.TheVariants.{Called, Served, NoMemory}
use Rattle.vchan_persist.specs.States.{AnsweringState}

-- a client that calls makes a turn of its session, and its end is retired once its call is over
abbrev pub CallingTurns : CallerAt → Turn EpochTask SideDone → Type 0
CallingTurns was (Again (Calls now)) = (turned : Turned) × Turns caller_half turned was now
CallingTurns was (Done (Called end)) = (turned : Turned) × (left : CallerAt) × Turns caller_half turned was left × IsRetired (view left.end) (last_view end.retired)
CallingTurns was (Done NoMemory) = Unit {0}
CallingTurns was other = ⊥

-- the server does the same, and keeps its service
abbrev pub AnsweringTurns : AnsweringState → Turn EpochTask SideDone → Type 0
AnsweringTurns was (Again (Serves now)) = (now.service ≡ was.service) × ((turned : Turned) × Turns builtin_half turned was.session now.session)
AnsweringTurns was (Done (Served end)) = (turned : Turned) × (left : ServingAt) × Turns builtin_half turned was.session left × IsRetired (view left.end) (last_view end.retired)
AnsweringTurns was (Done NoMemory) = Unit {0}
AnsweringTurns was other = ⊥

-- a hostile client makes all its stores in its only turn, of which what it owes tells; and a task that was over makes no turn more
abbrev pub EpochTurns : EpochTask → Turn EpochTask SideDone → Type 0
EpochTurns (Calls was) result = CallingTurns was result
EpochTurns (Serves was) result = AnsweringTurns was result
EpochTurns (Scribbles was) (Done done) = Unit {0}
EpochTurns (Over was) (Done done) = done ≡ was
EpochTurns _ (Again now) = ⊥
