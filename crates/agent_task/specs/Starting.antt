-- The parts of an agent that is just made.
-- Source: this project's own.
use Rattle.std.specs.Prelude.{◌≡◌, false, List, [], map, replicate, length, None}
use Rattle.list_laws.specs.Lists.{AreDifferent}
use Rattle.vchan_rule.specs.Seated.{view}
use Rattle.ring_words.specs.declared.page.Role.TheVariants.{Server}
use Rattle.end_view.specs.EndView.{IsUnused}
use Rattle.scenario_file.specs.declared.scenario.CallPlan.{CallPlan}
use Rattle.task_duties.specs.TaskOwes.{places_in}
use Rattle.task_duties.specs.Words.{ident_of}
use Rattle.control_port.specs.Port.{PortState, HasSaid, HasHeard}
use Rattle.control_port.specs.declared.talk.Talker.TheVariants.{Agent as OfAgent}
use Rattle.agent_queue.specs.Queue.{QueueState, fresh, asked_by}
use Rattle.agent_queue.specs.Asking.{Asks}
use Rattle.agent_slots.specs.Sessions.{NotBegun}
use Rattle.agent_slots.specs.Sides.{late_places}
use Rattle.agent_slots.specs.Slots.{SlotsState, held_at, AreApart}
use Rattle.agent_task.specs.declared.agent.Agent.{Agent}
use Rattle.agent_task.specs.declared.agent.Given.{Given}
use Rattle.agent_task.specs.Given.{data_ends}
use Rattle.agent_task.specs.State.{AgentState, state_of}

-- a queue of these calls, none of which was requested
pub record IsNewQueue (calls : List CallPlan) (q : QueueState) : Type 0 where
  pub queue_is : q ≡ record { calls = map fresh calls; next = 0 }
  pub asks : Asks q []
  pub apart : AreDifferent (map (λ a. ident_of a.call.number) (asked_by q))

-- the port of an unused end
pub record IsNewPort (g : Given) (p : PortState) : Type 0 where
  pub end : p.end ≡ g.control.value
  pub talker : p.talker ≡ OfAgent
  pub own : p.own ≡ g.version
  pub version : p.version ≡ None
  pub fine : p.fault ≡ None
  pub said : HasSaid p []
  pub heard : HasHeard p []
  pub unused : IsUnused (view g.control.value)
  pub server : (view g.control.value).role ≡ Server

-- all of them are made from what was given, and nothing was done yet
pub record IsNew (g : Given) (q : QueueState) (p : PortState) (s : SlotsState) : Type 0 where
  pub queue : IsNewQueue g.calls.value.items q
  pub port : IsNewPort g p
  pub slots : s ≡ record { domain = g.domain; version = g.version; held = map held_at (data_ends g); unused = places_in (data_ends g); late = late_places g.payload.value.items; called = replicate (length g.calls.value.items) None; served = []; opened = []; sessions = replicate (length g.payload.value.items) NotBegun; spent = false }
  pub apart : AreApart (places_in (data_ends g))

-- what contracts see of a task whose agent has these parts, has nothing to say, and is on a channel that isn't over
pub record IsNewTask (state : AgentState) : Type 0 where
  pub agent : Agent
  pub seen : state ≡ state_of agent
  pub new : IsNew agent.given agent.control.queue agent.control.port agent.slots
  pub unsaid : agent.control.unsaid.items ≡ []
  pub up : agent.over ≡ None
