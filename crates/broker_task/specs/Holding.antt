-- The letters that wait: why one is held, and that none is lost.
-- Source: this project's own.
use Rattle.std.specs.Prelude.{◌≡◌, ◌⊎◌, ℕ, ◌+◌, true, false, List, ◌++◌, map, Contains, IsPermutation, Some}
use Rattle.std.specs.List.{AllByRecursion as Each}
use Rattle.vchan_rule.specs.Seated.{view}
use Rattle.qrexec_frame.specs.declared.message.Message.{Message}
use Rattle.qrexec_frame.specs.declared.message.Message.TheVariants.{Exec, Connect}
use Rattle.call_broker.specs.declared.decision.Entry.{Entry}
use Rattle.call_broker.specs.Domains.{Domains}
use Rattle.call_broker.specs.Journal.{is_dropped}
use Rattle.task_duties.specs.Broker.Outbox.{outbox}
use Rattle.task_duties.specs.Broker.Owes.{broker_version}
use Rattle.control_port.specs.declared.talk.Talker.TheVariants.{Broker}
use Rattle.control_port.specs.Port.{HasSaid, HasHeardAll}
use Rattle.broker_task.specs.declared.daemon.Daemon.{Daemon}
use Rattle.broker_task.specs.Letters.{IsAt, messages_in, connects}
use Rattle.broker_task.specs.Lines.{heard_by, is_shut}
use Rattle.broker_task.specs.Moving.{BrokerLine, line_of}

abbrev pub lines_of : List Daemon → List BrokerLine
lines_of ds = map line_of ds

-- the Exec of a call of this domain at this port waits for its target, which wasn't dropped
pub record ExecWaits (lines : List BrokerLine) (to from port : ℕ) : Type 0 where
  pub place : ℕ
  pub line : BrokerLine
  pub there : IsAt lines place line
  pub number : place + 1 ≡ to
  pub up : is_shut (view line.port.end).state ≡ false
  pub text : List ℕ
  pub waits : Contains (messages_in line.letters) (Exec from port text)

-- a message for this domain that may be held: the Connect of a call whose Exec waits
abbrev pub MayHold : List BrokerLine → ℕ → Message → Type 0
MayHold lines d (Connect to port ident) = ExecWaits lines to d port
MayHold lines d m = ⊥

-- each letter that is held may be held
abbrev pub HoldsForExecs : List BrokerLine → Type 0
HoldsForExecs lines = (place : ℕ) (line : BrokerLine) → IsAt lines place line → Each (λ l. l.held ≡ true → MayHold lines (place + 1) l.message) line.letters

-- what the journal puts into the outbox of a domain that isn't dropped was said to it, or waits
abbrev pub NoneIsLost : Domains → List Entry → (ℕ → List Message) → List BrokerLine → Type 0
NoneIsLost hub journal said lines = (place : ℕ) (line : BrokerLine) → IsAt lines place line → is_shut (view line.port.end).state ≡ false
    → IsPermutation (said (place + 1) ++ messages_in line.letters) (outbox hub journal (place + 1))

-- the domains that were dropped are those whose ends are shut
abbrev pub ShutAreDropped : List Entry → List BrokerLine → Type 0
ShutAreDropped journal lines = (place : ℕ) (line : BrokerLine) → IsAt lines place line → is_dropped journal (place + 1) ≡ is_shut (view line.port.end).state

-- what was said to a domain went through the broker's port, of the broker's version; and while the domain isn't dropped all that came from it was heard
pub record PortStands (said : List Message) (line : BrokerLine) : Type 0 where
  pub talker : line.port.talker ≡ Broker
  pub own : line.port.own ≡ broker_version
  pub says : HasSaid line.port said
  pub hears : is_shut (view line.port.end).state ≡ false → HasHeardAll line.port (heard_by (view line.port.end)).messages

abbrev pub PortsStand : (ℕ → List Message) → List BrokerLine → Type 0
PortsStand said lines = (place : ℕ) (line : BrokerLine) → IsAt lines place line → PortStands (said (place + 1)) line

-- ---- while one is let go

-- the message is a Connect of the call whose Exec was sent to this target
abbrev pub IsLetGo : ℕ → Message → ℕ → Message → Type 0
IsLetGo to sent d m = (port : ℕ) × (text : List ℕ) × (sent ≡ Exec d port text) × (connects to (Some port) m ≡ true)

-- each letter that is held may be held, but for these
abbrev pub HoldsBut : (ℕ → Message → Type 0) → List BrokerLine → Type 0
HoldsBut except lines = (place : ℕ) (line : BrokerLine) → IsAt lines place line → Each (λ l. l.held ≡ true → MayHold lines (place + 1) l.message ⊎ except (place + 1) l.message) line.letters
