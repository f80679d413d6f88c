-- An agent between two turns, as contracts see it.
-- Source: this project's own.
use Rattle.std.specs.Prelude.{◌≡◌, ◌≢◌, ◌⊎◌, ℕ, ◌<◌, ◌≤◌, true, List, [], ◌++◌, length, map, filter_map, take, slice_get, Option, Some, None, IsSomeAnd, IsPermutation}
use Rattle.std.specs.List.{AllByRecursion as Each}
use Rattle.list_laws.specs.Lists.{SomeOf}
use Rattle.qrexec_frame.specs.declared.message.Message.{Message}
use Rattle.vchan_rule.specs.Seated.{view}
use Rattle.end_view.specs.EndView.{EndView, no_end}
use Rattle.task_duties.specs.declared.done.ControlEnd.{ControlEnd}
use Rattle.task_duties.specs.TaskOwes.{TaskGiven, EndAt, Agent as AgentWith}
use Rattle.task_duties.specs.Agent.Given.{AgentPlan}
use Rattle.task_duties.specs.Agent.Answers.{Answer, Waits, IsRefused, At, Answers, answers}
use Rattle.task_duties.specs.Agent.Saying.{asking, asking_of}
use Rattle.control_port.specs.Port.{HasSaid, HasHeardAll}
use Rattle.control_port.specs.declared.talk.Talker.TheVariants.{Agent as OfAgent}
use Rattle.agent_queue.specs.Queue.{Queued, asked_by}
use Rattle.agent_control.specs.declared.control.AgentControl.{AgentControl}
use Rattle.agent_slots.specs.Slots.{place_at, late_count}
use Rattle.agent_slots.specs.Sessions.{Session, NotBegun, is_open, session_at, TakesTurn}
use Rattle.agent_slots.specs.Agreeing.{places_free, SessionStands}
use Rattle.agent_task.specs.declared.agent.Agent.{Agent}
use Rattle.agent_task.specs.Given.{plan_of, ends_of}
use Rattle.agent_task.specs.Ends.{session_told, session_of_end}
use Rattle.agent_task.specs.Asking.{IsReportedEarly}
use Rattle.agent_task.specs.Telling.{TellsOnce, heard_on, owed_on}
use Rattle.qrexec_data.specs.Laws.{IsVersion}

pub record AgentState : Type 0 where
  -- its plan and all its ends, as they were given
  pub plan : AgentPlan
  pub ends : List EndAt
  -- its control end, and how its control channel is over
  pub control : EndView
  pub over : Option ControlEnd
  -- the sessions whose end waits to be reported, and those that are open, each by the domain at its other end and its port
  pub waiting : List (ℕ × ℕ)
  pub opened : List (ℕ × ℕ)
  -- the session of each data end, in the order of the ends, and how many open ones are on pages that are laid at their first use
  pub sessions : List Session
  pub pages : ℕ
  -- its control channel
  pub channel : Option AgentControl

abbrev pub state_of : Agent → AgentState
state_of a = record {
  plan = plan_of a.given;
  ends = ends_of a.given;
  control = view a.control.port.end;
  over = a.over;
  waiting = map session_of_end a.control.unsaid.items;
  opened = map session_of_end a.slots.opened;
  sessions = a.slots.sessions;
  pages = late_count a.slots;
  channel = Some a.control;
}

-- that of a task, whose agent is there between two turns
abbrev pub state_in : Option Agent → AgentState
state_in (Some a) = state_of a
state_in None = record { plan = record { domain = 0; version = 0; calls = []; places = [] }; ends = []; control = no_end; over = None; waiting = []; opened = []; sessions = []; pages = 0; channel = None }

-- what the task was given
abbrev pub task_given : AgentState → TaskGiven
task_given task = AgentWith task.plan task.ends

-- what it makes of all that it heard
abbrev pub answers_so_far : AgentState → Answers
answers_so_far task = answers task.plan (heard_on task.plan task.control).messages

-- a session by the domain at its other end and its port: it is open, at a place of a call of the agent's own or of what it serves
pub record IsOpenSession (task : AgentState) (session : ℕ × ℕ) : Type 0 where
  pub at : ℕ
  pub number : Option ℕ
  pub place_is : slice_get task.plan.places at ≡ Some (place_at task.plan.domain number session.0 session.1)
  pub is_open : is_open (session_at task.sessions at) ≡ true

-- a call is open while it waits for its answer, while its session is open and until the end of that was reported, unless that was before its trigger
abbrev pub IsOpenFor : List (ℕ × ℕ) → List Message → ℕ → Answer → Type 0
IsOpenFor held said place Waits = Unit {0}
IsOpenFor held said place IsRefused = ⊥
IsOpenFor held said place (At to port) = SomeOf (λ s. s ≡ (to, port)) held ⊎ IsReportedEarly said place to port

-- its channel: its port has said and heard just this; the ends that wait are those of its control part; its queue has the calls of the plan, with the answers that it heard; its triggers were those of the first calls; and while the channel is up, a call that is open there was asked for, and is so for a reason
pub record IsChannelOf (task : AgentState) (said : List Message) (c : AgentControl) : Type 0 where
  pub control : task.control ≡ view c.port.end
  pub talker : c.port.talker ≡ OfAgent
  pub own : c.port.own ≡ task.plan.version
  pub says : HasSaid c.port said
  pub hears : HasHeardAll c.port (heard_on task.plan task.control).messages
  pub waiting : task.waiting ≡ map session_of_end c.unsaid.items
  pub calls : map (λ a. a.call) (asked_by c.queue) ≡ task.plan.calls
  pub answered : asked_by c.queue ≡ (answers_so_far task).asked
  pub asks : filter_map asking said ≡ take c.queue.next (map asking_of task.plan.calls)
  pub opened : task.over ≡ None → (place : ℕ) (call : Queued) → slice_get c.queue.calls place ≡ Some call → call.is_open ≡ true → (place < c.queue.next) × IsOpenFor (task.waiting ++ task.opened) said place call.answer

-- what it has made so far of what it heard: its calls, and its sessions, one for each data end, each of which has begun if it was let through or asked for at its place
pub record ActsSoFar (task : AgentState) (said : List Message) : Type 0 where
  pub channel : IsSomeAnd task.channel (IsChannelOf task said)
  pub begun : (answers_so_far task).unused ≡ places_free task.plan.places task.sessions
  pub version : IsVersion task.plan.version
  pub count : length task.sessions ≡ length task.plan.places
  pub sessions : Each (SessionStands task.plan.version) task.sessions
  pub opened : Each (IsOpenSession task) task.opened
  pub pages : task.pages ≤ length task.opened

-- what it has reported so far: while its control channel is up, the end of each session that it owes to report was reported, waits for that, or is yet to come
pub record TellsSoFar (task : AgentState) : Type 0 where
  pub once : TellsOnce task.plan task.control
  pub acts : ActsSoFar task once.said
  pub waits : task.over ≡ None → IsPermutation (filter_map session_told once.said ++ (task.waiting ++ task.opened)) (owed_on task.plan task.control)

-- each session that had begun took its turn
abbrev pub TurnsEach : List Session → List Session → Type 0
TurnsEach old new = (i : ℕ) → session_at old i ≢ NotBegun → TakesTurn (session_at old i) (session_at new i)
