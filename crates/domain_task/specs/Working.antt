-- How much a task has done, as a number that no turn lowers, and what a turn is that doesn't raise it.
-- Source: this project's own.
use Rattle.std.specs.Prelude.{◌≡◌, ◌≢◌, ◌⊎◌, ℕ, ◌+◌, ◌-◌, ◌<◌, ◌≤◌, false, List, [], ◌∷◌, length, Option, Some, None, is_some}
use Rattle.std.specs.List.{AllZip as EachPair}
use Rattle.end_view.specs.EndView.{EndView}
use Rattle.vchan_rule.specs.Seated.{SeatedEnd, view}
use Rattle.task_pool.specs.declared.task.Turn.{Turn}
use Rattle.task_pool.specs.declared.task.Turn.TheVariants as turn
use Rattle.task_duties.specs.declared.done.ControlEnd.{ControlEnd}
use Rattle.channel_session.specs.declared.pause.Turned.{Turned}
use Rattle.channel_session.specs.declared.pause.Turned.TheVariants.{Moved}
use Rattle.qrexec_data.specs.CallerSide.{caller_half}
use Rattle.channel_session.specs.Session.{CallerAt, ServingAt, Turns, builtin_half}
use Rattle.agent_slots.specs.Sessions.{Session, NotBegun, CallsWith, AwaitsPage, ServesWith, EndedWith, session_at, got_in, sent_in}
use Rattle.agent_control.specs.declared.control.AgentControl.{AgentControl}
use Rattle.agent_task.specs.State.{AgentState}
use Rattle.agent_task.specs.Moving.{HearsNothing}
use Rattle.broker_task.specs.Lines.{is_begun, is_shut}
use Rattle.broker_task.specs.Moving.{BrokerLine, IsQuiet}
use Rattle.broker_task.specs.Posting.{one_if}
use Rattle.hostile_task.specs.Plan.{HostileState}
use Rattle.hostile_task.specs.Turns.{all_turns, turns_left}
use Rattle.domain_task.specs.declared.done.TaskDone.{TaskDone}
use Rattle.domain_task.specs.declared.task.Task.{Task}
use Rattle.domain_task.specs.declared.task.Task.TheVariants.{Agent, Broker, Hostile}

-- ---- an agent, by its control channel and its sessions

-- the bytes that came and went on an end
abbrev pub bytes_on : SeatedEnd → ℕ
bytes_on end = length (view end).got + length (view end).sent

abbrev pub bytes_of : Option AgentControl → ℕ
bytes_of (Some control) = bytes_on control.port.end
bytes_of None = 0

-- how far a session has come: it has begun, its page is at hand, it is over
abbrev pub steps_in : Session → ℕ
steps_in NotBegun = 0
steps_in AwaitsPage = 1
steps_in (CallsWith at) = 2
steps_in (ServesWith at) = 2
steps_in (EndedWith end) = 3

-- what came and went in a session, and its steps
abbrev pub work_in : Session → ℕ
work_in session = length (got_in session) + length (sent_in session) + steps_in session

abbrev pub work_in_all : List Session → ℕ
work_in_all [] = 0
work_in_all (session ∷ sessions) = work_in session + work_in_all sessions

abbrev pub work_of : AgentState → ℕ
work_of task = bytes_of task.channel + one_if (is_some task.over) + work_in_all task.sessions

-- nothing was heard on the channel, and nothing said: the broker was there, and had sent nothing more
pub record HearsAndSaysNothing (old new : AgentControl) : Type 0 where
  pub heard : SeatedEnd
  pub nothing : HearsNothing old.port heard
  pub got : length (view new.port.end).got ≡ length (view old.port.end).got
  pub sent : length (view new.port.end).sent ≡ length (view old.port.end).sent

abbrev pub IsStill : Option AgentControl → Option AgentControl → Type 0
IsStill (Some old) (Some new) = HearsAndSaysNothing old new
IsStill _ _ = ⊥

-- or the channel had been over before the turn
pub data ChannelRests (old new : AgentState) : Type 0 where
  IsUp : old.over ≡ None → new.over ≡ None → IsStill old.channel new.channel → ChannelRests old new
  WasOver : (how : ControlEnd) → old.over ≡ Some how → new.over ≡ Some how → ChannelRests old new

-- a session moved nothing in a turn that it made or passed over; or the page that it awaits didn't come; or it hasn't begun; or it had been over
pub data SessionRests (old new : Session) : Type 0 where
  CallerRests : (before now : CallerAt) (turned : Turned) → old ≡ CallsWith before → new ≡ CallsWith now → Turns caller_half turned before now → turned ≢ Moved → SessionRests old new
  ServingRests : (before now : ServingAt) (turned : Turned) → old ≡ ServesWith before → new ≡ ServesWith now → Turns builtin_half turned before now → turned ≢ Moved → SessionRests old new
  PageAwaited : old ≡ AwaitsPage → new ≡ AwaitsPage → SessionRests old new
  HasNotBegun : old ≡ NotBegun → new ≡ NotBegun → SessionRests old new
  HadEnded : (end : EndView) → old ≡ EndedWith end → new ≡ EndedWith end → SessionRests old new

pub record AgentRests (old new : AgentState) : Type 0 where
  pub channel : ChannelRests old new
  pub sessions : (i : ℕ) → SessionRests (session_at old.sessions i) (session_at new.sessions i)

-- ---- the broker, by its domains

-- what was heard from a domain and said to it, one more once the broker has connected, and one once the domain was dropped
abbrev pub work_with : BrokerLine → ℕ
work_with line = bytes_on line.port.end + one_if (is_begun (view line.port.end).state) + one_if (is_shut (view line.port.end).state)

abbrev pub work_with_all : List BrokerLine → ℕ
work_with_all [] = 0
work_with_all (line ∷ lines) = work_with line + work_with_all lines

-- a domain was quiet, or had been dropped; the broker had connected before; nothing was heard from it, and nothing said to it
pub record Rests (old new : BrokerLine) : Type 0 where
  pub begun : is_begun (view new.port.end).state ≡ is_begun (view old.port.end).state
  pub shut : is_shut (view new.port.end).state ≡ is_shut (view old.port.end).state
  pub got : length (view new.port.end).got ≡ length (view old.port.end).got
  pub sent : length (view new.port.end).sent ≡ length (view old.port.end).sent
  pub quiet : is_shut (view new.port.end).state ≡ false → IsQuiet old new

-- ---- a hostile domain, by the turns of its acts

abbrev pub turns_made : HostileState → ℕ
turns_made task = all_turns task.plan.acts - turns_left task.plan.acts task.acts task.turns

-- ---- any task

abbrev pub work_done : Task → ℕ
work_done (Agent task) = work_of task
work_done (Broker task) = work_with_all task.lines
work_done (Hostile task) = turns_made task

-- a turn in which nothing was done. A hostile domain makes none: each of its turns is one of its acts
abbrev pub DoesNothing : Task → Task → Type 0
DoesNothing (Agent before) (Agent now) = AgentRests before now
DoesNothing (Broker before) (Broker now) = EachPair Rests before.lines now.lines
DoesNothing before now = ⊥

-- a turn undoes nothing, and either it did something more or it did nothing
abbrev pub Works : Task → Turn Task TaskDone → Type 0
Works before (turn.Again now) = (work_done before ≤ work_done now) × ((work_done before < work_done now) ⊎ DoesNothing before now)
Works before (turn.Done done) = Unit {0}
