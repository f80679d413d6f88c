-- Why an agent says no more in a turn: what the last call on its end found, or that nothing is due.
-- Source: the order and the limit are this project's own.
use Rattle.std.specs.Prelude.{◌≡◌, ℕ, ◌+◌, ◌<◌, Bool, true, false, List, [], ◌∷◌, length, Some}
use Rattle.vchan_protocol.specs.declared.call.Call.TheVariants.{BufferSpace}
use Rattle.vchan_protocol.specs.declared.call.Answer.TheVariants.{Space}
use Rattle.vchan_protocol.specs.Table.Calls.{Trace}
use Rattle.vchan_protocol.specs.Answering.Causes.{Cause}
use Rattle.vchan_protocol.specs.Answering.Loads.{loads_of}
use Rattle.vchan_protocol.specs.History.Core.{standing_of}
use Rattle.vchan_rule.specs.Seated.{SeatedEnd, view}
use Rattle.vchan_rule.specs.Ends.{IsSameEnd}
use Rattle.vchan_packet.specs.Packet.{FailsToSend}
use Rattle.qrexec_frame.specs.declared.message.Message.{Message}
use Rattle.qrexec_frame.specs.Messages.{written}
use Rattle.task_duties.specs.declared.done.SessionEnd.{SessionEnd}
use Rattle.agent_queue.specs.Queue.{HasToSay, IsHeld}
use Rattle.agent_control.specs.declared.control.AgentControl.{AgentControl}
use Rattle.agent_control.specs.Speaking.{terminated}

-- ---- what the last call found

-- the last call was a look for room; by what it loaded there was less than this
pub record FindsLess (before now : SeatedEnd) (len : ℕ) : Type 0 where
  pub room : ℕ
  pub view_is : view now ≡ view before
  pub trail : Trace (standing_of before.side) BufferSpace now.side.trail (Space room)
  pub cause : Cause (standing_of before.side) BufferSpace (loads_of (standing_of before.side) now.side.trail) (Space room)
  pub less : room < len

-- something holds if this wasn't done
abbrev pub Unless : Bool → Type 0 → Type 0
Unless true P = Unit {0}
Unless false P = P

-- ---- why no more was said

-- ends of sessions wait, and the first one of them didn't go
pub record EndWaits (old new : AgentControl) : Type 0 where
  pub end : SessionEnd
  pub waiting : List SessionEnd
  pub first : new.unsaid.items ≡ end ∷ waiting
  pub before : SeatedEnd
  pub same : IsSameEnd old.port.end before
  pub fails : FailsToSend (written (terminated end)) before new.port.end

-- the trigger that is due waits for room, or didn't go
pub record TriggerWaits (old new : AgentControl) (Finds : SeatedEnd → SeatedEnd → Message → Type 0) : Type 0 where
  pub version : ℕ
  pub version_is : new.port.version ≡ Some version
  pub trigger : Message
  pub due : HasToSay new.queue version (Some trigger)
  pub before : SeatedEnd
  pub same : IsSameEnd old.port.end before
  pub finds : Finds before new.port.end trigger

-- why the next trigger didn't go: the queue holds each call that is left, or there was no room for the trigger that is due, or the peer was shut
pub data HoldsBack (old new : AgentControl) : Type 0 where
  NothingIsDue : IsHeld new.queue → HoldsBack old new
  HasLessRoom : TriggerWaits old new (λ before now m. FindsLess before now (length (written m))) → HoldsBack old new
  DidNotGo : TriggerWaits old new (λ before now m. FailsToSend (written m) before now) → HoldsBack old new

-- why no more was said: an end of a session didn't go; or all did, and as many triggers went as are allowed in one turn, or the next one didn't go
pub data Stops (calls : ℕ) (old new : AgentControl) : Type 0 where
  AtAnEnd : EndWaits old new → Stops calls old new
  AtTheLimit : new.unsaid.items ≡ [] → new.queue.next ≡ old.queue.next + calls → Stops calls old new
  AtATrigger : new.unsaid.items ≡ [] → HoldsBack old new → Stops calls old new
