-- What a turn of an agent did on its control channel, and why it did no more.
-- Source: the order and the limits are this project's own.
use Rattle.std.specs.Prelude.{◌≡◌, ◌⊎◌, ℕ, ◌<◌, ◌≤◌, ◌-◌, min, true, false, length, Option, Some, None}
use Rattle.vchan_rule.specs.Seated.{SeatedEnd, view}
use Rattle.vchan_rule.specs.Ends.{IsSameEnd}
use Rattle.vchan_lifecycle.specs.Lifecycle.{FindsNotYet}
use Rattle.vchan_lifecycle.specs.declared.DrainAnswer.{DrainAnswer}
use Rattle.vchan_lifecycle.specs.declared.DrainAnswer.TheVariants.{More, NotYet, AllRead, PeerGone}
use Rattle.vchan_packet.specs.declared.SendAnswer.TheVariants.{Sent}
use Rattle.vchan_packet.specs.Packet.{FailsToSend, sent_to}
use Rattle.qrexec_frame.specs.declared.message.Message.TheVariants.{Hello}
use Rattle.qrexec_frame.specs.Messages.{written}
use Rattle.task_duties.specs.declared.done.ControlEnd.{ControlEnd}
use Rattle.channel_session.specs.Turning.{KeepsBytes}
use Rattle.control_port.specs.Port.{PortState}
use Rattle.agent_control.specs.declared.control.AgentControl.{AgentControl}
use Rattle.agent_control.specs.Speaking.{SaysMore}
use Rattle.agent_control.specs.Stopping.{Stops}

-- ---- what came

-- its own greeting was sent before, and nothing was done; or it was sent now; or it couldn't be
pub data Greets (old new : PortState) : Type 0 where
  WasSent : old.greeted ≡ true → new ≡ old → Greets old new
  IsSent : old.greeted ≡ false → view new.end ≡ sent_to (view old.end) Sent (written (Hello old.own)) → Greets old new
  IsUnsent : new.greeted ≡ false → FailsToSend (written (Hello old.own)) old.end new.end → Greets old new

-- a drain took bytes or found none, unless it found the end of what comes
abbrev pub Takes : DrainAnswer → SeatedEnd → SeatedEnd → Type 0
Takes (More count) old new = length (view old).got < length (view new).got
Takes (NotYet prod cons) old new = FindsNotYet old new × ((view new).got ≡ (view old).got)
Takes AllRead old new = Unit {0}
Takes (PeerGone prod cons) old new = Unit {0}

-- and it sent nothing; what came before stays so
pub record Drains (drained : DrainAnswer) (old new : SeatedEnd) : Type 0 where
  pub takes : Takes drained old new
  pub got : length (view old).got ≤ length (view new).got
  pub sent : (view new).sent ≡ (view old).sent

-- after the greeting the drain found the ring empty and the broker there
pub record HearsNothing (old : PortState) (heard : SeatedEnd) : Type 0 where
  pub greeted : PortState
  pub greets : Greets old greeted
  pub not_yet : FindsNotYet greeted.end heard
  pub none : (view heard).got ≡ (view old.end).got

-- bytes came, or none were there; what was sent before stays so
pub record Listens (old : PortState) (heard : SeatedEnd) : Type 0 where
  pub found : (length (view old.end).got < length (view heard).got) ⊎ HearsNothing old heard
  pub sent : length (view old.end).sent ≤ length (view heard).sent

-- ---- what was said

-- why no more was said: one of the two greetings hasn't come through, and nothing was said; or the saying of ends and triggers stopped, and what was sent before stays so
pub data SaysNoMore (calls : ℕ) (old new : AgentControl) : Type 0 where
  HasNotGreeted : new.port.greeted ≡ false → new ≡ old → SaysNoMore calls old new
  WasNotGreeted : new.port.version ≡ None → new ≡ old → SaysNoMore calls old new
  HasStopped : SaysMore calls old new → length (view old.port.end).sent ≤ length (view new.port.end).sent → Stops calls old new → SaysNoMore calls old new

-- the calls that may be requested in a turn, by the number of open sessions on pages that are laid at their first use: one, or none from eight such sessions on
abbrev pub asked_at_most : ℕ → ℕ
asked_at_most pages = min (8 - pages) 1

-- ---- the whole turn

pub record TurnsControl (calls : ℕ) (old new : AgentControl) : Type 0 where
  -- after the turns of the sessions: what came was acted on, and no call was requested since
  pub waiting : AgentControl
  pub same : IsSameEnd old.port.end waiting.port.end
  pub next : waiting.queue.next ≡ old.queue.next
  pub listens : Listens old.port waiting.port.end
  pub says : SaysNoMore calls waiting new

-- the same of a task, whose agent is there between two turns
abbrev pub TurnsChannel : ℕ → Option AgentControl → Option AgentControl → Type 0
TurnsChannel pages (Some old) (Some new) = TurnsControl (asked_at_most pages) old new
TurnsChannel pages _ _ = ⊥

-- ---- whether or not the channel is up

-- no byte that came or went is taken back; and a channel that was over stays so, and nothing moves on it
pub record KeepsControl (was now : Option ControlEnd) (old new : AgentControl) : Type 0 where
  pub bytes : KeepsBytes (view old.port.end) (view new.port.end)
  pub over : (how : ControlEnd) → was ≡ Some how → (now ≡ Some how) × (new.port ≡ old.port)

-- the same of a task
abbrev pub KeepsChannel : Option ControlEnd → Option ControlEnd → Option AgentControl → Option AgentControl → Type 0
KeepsChannel was now (Some old) (Some new) = KeepsControl was now old new
KeepsChannel was now _ _ = ⊥
