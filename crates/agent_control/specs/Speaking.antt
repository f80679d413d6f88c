-- What an agent sends on its control channel: its port and the queue of its calls, tied to the messages that were sent and heard.
-- Source: the messages are those of the qrexec protocol; the order and the limit are this project's own.
use Rattle.std.specs.Prelude.{◌≡◌, ◌≢◌, ◌⊎◌, ℕ, ◌<◌, ◌≤◌, Bool, true, false, List, [], ◌∷◌, ◌++◌, length, map, slice_get, Option, Some, None, is_some, if◌then◌else◌}
use Rattle.std.specs.List.{AllByRecursion as Each}
use Rattle.list_laws.specs.Lists.{SomeOf}
use Rattle.qrexec_frame.specs.declared.message.Message.{Message}
use Rattle.qrexec_frame.specs.declared.message.Message.TheVariants.{Terminated}
use Rattle.vchan_rule.specs.Seated.{view, IsOpen}
use Rattle.vchan_rule.specs.Ends.{IsSameEnd}
use Rattle.task_duties.specs.declared.done.SessionEnd.{SessionEnd}
use Rattle.task_duties.specs.Agent.Answers.{Answer, Asked}
use Rattle.task_duties.specs.Agent.Saying.{asking, is_at, is_refusal, IsOfVersion, IsTold, AsksToServe}
use Rattle.control_port.specs.Port.{PortState, HasSaid, HasHeard, OnlySends}
use Rattle.control_port.specs.declared.talk.Talker.TheVariants.{Agent}
use Rattle.agent_queue.specs.Queue.{Queued, QueueState, asked_by}
use Rattle.agent_queue.specs.Asking.{Asks}
use Rattle.agent_control.specs.declared.control.AgentControl.{AgentControl}

-- an end of a session that may be reported: of a call of the agent's own with that domain and port, or of what it was asked to serve
abbrev pub MayTell : List Asked → List Message → Option ℕ → ℕ → ℕ → Type 0
MayTell asked heard (Some place) domain port = (a : Asked) × (slice_get asked place ≡ Some a) × (is_at domain port a.answer ≡ true)
MayTell asked heard None domain port = SomeOf (AsksToServe domain port) heard

abbrev pub IsTellable : List Asked → List Message → SessionEnd → Type 0
IsTellable asked heard e = MayTell asked heard e.call e.domain e.port

-- the call of an end of a session exists
abbrev pub HasCall : List Asked → Option ℕ → Type 0
HasCall asked (Some place) = place < length asked
HasCall asked None = Unit {0}

-- the agent has sent these messages, having heard those: its triggers in their order and within the limit, each in the version that was
-- agreed on, and ends of sessions that it may report
pub record Speaks (c : AgentControl) (heard said : List Message) : Type 0 where
  pub said_is : HasSaid c.port said
  pub asks : Asks c.queue said
  pub of_version : Each (IsOfVersion c.port.version) said
  pub told : Each (IsTold (asked_by c.queue) heard) said
  pub unsaid : Each (IsTellable (asked_by c.queue) heard) c.unsaid.items

-- the agent can send more: its channel is open, its greeting was sent, a version is agreed on, and each call whose end it has to report
-- exists
pub record CanSpeak (c : AgentControl) : Type 0 where
  pub is_open : IsOpen c.port.end
  pub talker : c.port.talker ≡ Agent
  pub greeted : c.port.greeted ≡ true
  pub version : ℕ
  pub version_is : c.port.version ≡ Some version
  pub calls : Each (λ e. HasCall (asked_by c.queue) e.call) c.unsaid.items

-- the message that reports the end of a session
abbrev pub terminated : SessionEnd → Message
terminated e = Terminated e.domain e.port

-- what is sent in one go: the ends of these sessions, in order, and after them triggers of at most `calls` calls, and none while the end of a session waits
pub record IsSpoken (calls : ℕ) (told waiting : List SessionEnd) (more : List Message) : Type 0 where
  pub triggers : List Message
  pub is : more ≡ map terminated told ++ triggers
  pub each : Each (λ m. is_some (asking m) ≡ true) triggers
  pub few : length triggers ≤ calls
  pub last : (triggers ≡ []) ⊎ (waiting ≡ [])

-- the call at a place with this answer was open before, and its end isn't among those that were reported
pub record StaysOpen (told : List SessionEnd) (old : QueueState) (place : ℕ) (answer : Answer) : Type 0 where
  pub call : Queued
  pub was : slice_get old.calls place ≡ Some call
  pub answer_is : call.answer ≡ answer
  pub was_open : call.is_open ≡ true
  pub untold : Each (λ e. e.call ≢ Some place) told

-- the call at a place is one of those asked for, and hadn't been refused
pub record IsAskedNow (old new : QueueState) (place : ℕ) (answer : Answer) : Type 0 where
  pub from : old.next ≤ place
  pub below : place < new.next
  pub unrefused : is_refusal answer ≡ false

-- which calls are open once these ends were reported and then triggers were sent: those that were open and whose end wasn't reported, and those that it has asked for since and weren't refused before
abbrev pub OpenAfter : List SessionEnd → QueueState → QueueState → Type 0
OpenAfter told old new =
    (place : ℕ) (c : Queued) → slice_get new.calls place ≡ Some c → c.is_open ≡ true → StaysOpen told old place c.answer ⊎ IsAskedNow old new place c.answer

-- only the end of the port moved, which got nothing and came to no end
abbrev pub OnlyTalks : PortState → PortState → Type 0
OnlyTalks old new = OnlySends old new × ((view new.end).ended ≡ (view old.end).ended) × ((view new.end).got ≡ (view old.end).got)

-- the agent sent more, triggers of at most `calls` calls, and nothing else changed: the first ends of sessions were reported, and the others aren't yet
pub record SaysMore (calls : ℕ) (old new : AgentControl) : Type 0 where
  pub end : IsSameEnd old.port.end new.port.end
  pub port : OnlyTalks old.port new.port
  pub can : CanSpeak new
  pub asked : asked_by new.queue ≡ asked_by old.queue
  pub heard : (heard : List Message) → HasHeard old.port heard → HasHeard new.port heard
  pub told : List SessionEnd
  pub unsaid : old.unsaid.items ≡ told ++ new.unsaid.items
  pub next : old.queue.next ≤ new.queue.next
  pub opened : OpenAfter told old.queue new.queue
  pub speaks : (heard said : List Message) → Speaks old heard said → (more : List Message) × Speaks new heard (said ++ more) × IsSpoken calls told new.unsaid.items more

-- an end of a session was reported, or there was no room for it; it isn't removed from those to report
pub record Tells (old new : AgentControl) (e : SessionEnd) (gone : Bool) : Type 0 where
  pub end : IsSameEnd old.port.end new.port.end
  pub port : OnlyTalks old.port new.port
  pub can : CanSpeak new
  pub asked : asked_by new.queue ≡ asked_by old.queue
  pub heard : (heard : List Message) → HasHeard old.port heard → HasHeard new.port heard
  pub unsaid : new.unsaid ≡ old.unsaid
  pub next : new.queue.next ≡ old.queue.next
  pub opened : OpenAfter (if gone then e ∷ [] else []) old.queue new.queue
  pub speaks : (heard said : List Message) → Speaks old heard said → IsTellable (asked_by old.queue) heard e
      → Speaks new heard (said ++ (if gone then terminated e ∷ [] else []))

-- one message more was sent, or none
abbrev pub HasSaidOne : PortState → List Message → Message → Bool → Type 0
HasSaidOne p said m true = HasSaid p (said ++ m ∷ [])
HasSaidOne p said m false = HasSaid p said

-- one message was sent, or there was no room for it: only the end of the port moved
pub record Says (old new : AgentControl) (m : Message) (gone : Bool) : Type 0 where
  pub port : OnlyTalks old.port new.port
  pub can : CanSpeak new
  pub heard : (heard : List Message) → HasHeard old.port heard → HasHeard new.port heard
  pub said_is : (said : List Message) → HasSaid old.port said → HasSaidOne new.port said m gone
  pub version : new.port.version ≡ old.port.version
  pub queue : new.queue ≡ old.queue
  pub unsaid : new.unsaid ≡ old.unsaid
