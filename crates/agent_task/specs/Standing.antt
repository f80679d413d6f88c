-- What holds of an agent while its control channel is open: its calls and its sessions are what it makes of the messages that it heard.
-- Source: this project's own.
use Rattle.std.specs.Prelude.{◌≡◌, Bool, true, false, List, [], ◌∷◌, ◌++◌, map, Option, Some, None}
use Rattle.std.specs.List.{AllByRecursion as Each, AllZip as EachPair}
use Rattle.list_laws.specs.Lists.{SomeOf, AreDifferent}
use Rattle.qrexec_frame.specs.declared.message.Message.{Message}
use Rattle.vchan_rule.specs.Seated.{view, IsOpen}
use Rattle.vchan_rule.specs.Ends.{IsSameEnd}
use Rattle.end_view.specs.EndView.{EndView}
use Rattle.service_gate.specs.Owing.{builtin_owes}
use Rattle.scenario_file.specs.declared.scenario.CallPlan.{CallPlan}
use Rattle.task_duties.specs.declared.done.ControlEnd.{ControlEnd}
use Rattle.task_duties.specs.Words.{ident_of}
use Rattle.task_duties.specs.TaskOwes.{places_in}
use Rattle.task_duties.specs.Agent.Answers.{Answer, At, Asked, Served, Answers, answers}
use Rattle.task_duties.specs.Agent.Sessions.{IsService}
use Rattle.task_duties.specs.Agent.Saying.{AsksToServe}
use Rattle.control_port.specs.Port.{PortState, HasHeard, HasHeardAll}
use Rattle.control_port.specs.declared.talk.Talker.TheVariants.{Agent as OfAgent}
use Rattle.agent_queue.specs.Queue.{QueueState, asked_by}
use Rattle.agent_slots.specs.Sessions.{KeepsSessions}
use Rattle.agent_slots.specs.Slots.{Called, Serves, SlotsState, held_at, AreApart}
use Rattle.agent_control.specs.Speaking.{Speaks}
use Rattle.agent_task.specs.declared.agent.Given.{Given}
use Rattle.agent_task.specs.declared.agent.Agent.{Agent}
use Rattle.agent_task.specs.Given.{data_ends, plan_of}
use Rattle.agent_task.specs.Ends.{AreKept}
use Rattle.agent_task.specs.Asking.{CallsStand}

-- ---- what it makes of what it heard

-- the session of a call, if the call was let through
abbrev pub called_by : CallPlan → Answer → Option Called
called_by call (At to port) = Some (record { to = to; port = port; input = call.stdin })
called_by call answer = None

abbrev pub called_of : Asked → Option Called
called_of a = called_by a.call a.answer

-- a session that it serves is one that it owes to serve, by the service of that name
abbrev pub IsServedBy : Served → Serves → Type 0
IsServedBy x s = (s.from ≡ x.from) × (s.port ≡ x.port) × IsService x.service (builtin_owes s.service)

-- the queue and the data ends have these answers
pub record AreAnswers (a : Answers) (q : QueueState) (s : SlotsState) : Type 0 where
  pub asked : asked_by q ≡ a.asked
  pub unused : s.unused ≡ a.unused
  pub called : s.called ≡ map called_of a.asked
  pub served : EachPair IsServedBy a.served s.served

-- each session that it serves was requested
abbrev pub AreAskedFor : List Message → List Serves → Type 0
AreAskedFor heard served = Each (λ x. SomeOf (AsksToServe x.from x.port) heard) served

-- ---- what it was given

-- the queue has the calls that were given, no two by one ident
pub record AreCallsOf (g : Given) (q : QueueState) : Type 0 where
  pub calls : map (λ a. a.call) (asked_by q) ≡ g.calls.value.items
  pub apart : AreDifferent (map (λ a. ident_of a.call.number) (asked_by q))

-- the data ends are those that were given, and memory didn't run out in any turn of them
pub record AreSlotsOf (g : Given) (s : SlotsState) : Type 0 where
  pub domain : s.domain ≡ g.domain
  pub version : s.version ≡ g.version
  pub held : s.held ≡ map held_at (data_ends g)
  pub whole : s.spent ≡ false
  pub apart : AreApart (places_in (data_ends g))

-- the port has the control end that was given
pub record IsPortOf (g : Given) (p : PortState) : Type 0 where
  pub own : p.own ≡ g.version
  pub talker : p.talker ≡ OfAgent
  pub end : IsSameEnd g.control.value p.end

-- ---- between two messages

-- the agent has acted on the messages `heard`, and has sent the messages `said`
pub record Stands (a : Agent) (heard said : List Message) : Type 0 where
  pub port : IsPortOf a.given a.control.port
  pub calls : AreCallsOf a.given a.control.queue
  pub slots : AreSlotsOf a.given a.slots
  pub answers : AreAnswers (answers (plan_of a.given) heard) a.control.queue a.slots
  pub asked_for : AreAskedFor heard a.slots.served
  pub speaks : Speaks a.control heard said
  -- before the broker's greeting it sends nothing but its own
  pub quiet : a.control.port.version ≡ None → said ≡ []

-- what becomes of each end of a session that it owes to report; and while its channel is up, of each of its calls
abbrev pub KeepsEnds : Agent → List Message → List Message → Type 0
KeepsEnds a heard said =
    AreKept a.over a.slots.called a.control.unsaid.items a.slots.opened heard said × (a.over ≡ None → CallsStand a.control.queue a.control.unsaid.items a.slots.opened said)

-- its control channel is open, and nothing wrong was heard
pub record IsSound (a : Agent) : Type 0 where
  pub fine : a.control.port.fault ≡ None
  pub is_open : IsOpen a.control.port.end
  pub up : a.over ≡ None

-- it has acted on all messages that were handed out
pub record IsHearing (a : Agent) : Type 0 where
  pub heard : List Message
  pub said : List Message
  pub stands : Stands a heard said
  pub keeps : KeepsEnds a heard said
  pub hears : HasHeard a.control.port heard
  pub sound : IsSound a

-- it has acted on all messages that were handed out, except for this one, which was handed out last
pub record Awaits (a : Agent) (m : Message) : Type 0 where
  pub heard : List Message
  pub said : List Message
  pub stands : Stands a heard said
  pub keeps : KeepsEnds a heard said
  pub hears : HasHeard a.control.port (heard ++ m ∷ [])
  pub sound : IsSound a

-- all messages in the bytes that came were handed out, up to what is wrong with them
pub record HasHeardOut (a : Agent) : Type 0 where
  pub heard : List Message
  pub said : List Message
  pub stands : Stands a heard said
  pub keeps : KeepsEnds a heard said
  pub all : HasHeardAll a.control.port heard
  pub hears : a.control.port.fault ≡ None → HasHeard a.control.port heard
  pub is_open : IsOpen a.control.port.end
  pub up : a.over ≡ None

-- one message more was acted on, or there was none
abbrev pub HearsOn : Bool → Agent → Type 0
HearsOn true a = IsHearing a
HearsOn false a = HasHeardOut a

-- between two turns: all messages in the bytes that came were acted on, and no drain has found the end of what the broker sends
pub record IsUp (a : Agent) : Type 0 where
  pub hearing : IsHearing a
  pub all : HasHeardAll a.control.port hearing.heard
  pub going : (view a.control.port.end).ended ≡ None

-- ---- what a call leaves as it is

-- it has the same ends, and its channel is over or not as before
abbrev pub HasSameEnds : Agent → Agent → Type 0
HasSameEnds old new = (new.given ≡ old.given) × (new.over ≡ old.over) × (new.slots.held ≡ old.slots.held)

abbrev pub KeepsPort : Agent → Agent → Type 0
KeepsPort old new = (new.control.port ≡ old.control.port) × HasSameEnds old new

-- the sessions that were open are as they were
abbrev pub KeepsOpen : Agent → Agent → Type 0
KeepsOpen old new = KeepsSessions old.slots.sessions new.slots.sessions

-- only the ends to be reported differ
abbrev pub OnlyTells : Agent → Agent → Type 0
OnlyTells old new = new ≡ record old { control = record old.control { unsaid = new.control.unsaid } }

-- its control end can be retired, or was retired when the channel was over
abbrev pub CanRest : Option ControlEnd → EndView → Type 0
CanRest None end = Unit {0}
CanRest (Some how) end = end.retired ≡ true

-- it has the ends that were given, and its control end can rest
pub record CanGiveUp (a : Agent) : Type 0 where
  pub control : IsSameEnd a.given.control.value a.control.port.end
  pub held : a.slots.held ≡ map held_at (data_ends a.given)
  pub idle : (view a.control.port.end).idle ≡ true
  pub rests : CanRest a.over (view a.control.port.end)
