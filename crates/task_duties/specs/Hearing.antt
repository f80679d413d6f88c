-- What each side of a control channel sends, and what it makes of the bytes that it got.
-- Source: the messages are those of the qrexec protocol. In Qubes the server of a vchan greets first: here that is the agent.
use Rattle.std.specs.Prelude.{◌≡◌, ◌⊎◌, ℕ, Bool, true, false, List, [], ◌∷◌, Option, Some, None, Result, Ok, Err, if◌then◌else◌}
use Rattle.std.specs.List.{flat_map, AllByRecursion as Each}
use Rattle.qrexec_frame.specs.declared.kind.Channel.TheVariants.{Control}
use Rattle.qrexec_frame.specs.declared.message.Message.{Message}
use Rattle.qrexec_frame.specs.declared.message.Message.TheVariants.{Hello, Exec, JustExec, Connect, Refused, Terminated, Trigger3, Trigger}
use Rattle.qrexec_frame.specs.Messages.{written, IsSpellable}
use Rattle.qrexec_frame.specs.Grammar.{Fault}
use Rattle.qrexec_frame.specs.Fronts.{reading, fault_at}
use Rattle.qrexec_frame.specs.Streams.{Placed, Ending, Rest, FaultAt}
use Rattle.qrexec_hello.specs.Greeting.{greeting}
use Rattle.qrexec_hello.specs.declared.hello.HelloFault.{HelloFault}
use Rattle.qrexec_data.specs.declared.outcome.SessionFault.{SessionFault}
use Rattle.qrexec_data.specs.declared.outcome.SessionFault.TheVariants.{Frame, WrongSide}
use Rattle.qrexec_data.specs.declared.outcome.SessionFault.TheVariants as fault
use Rattle.qrexec_data.specs.Seeing.{offset, number}

-- what the broker may send to an agent after its greeting
abbrev pub to_agent : Message → Bool
to_agent (Connect domain port ident) = true
to_agent (Refused ident) = true
to_agent (Exec domain port line) = true
to_agent (JustExec domain port line) = true
to_agent message = false

-- what an agent may send to the broker after its greeting
abbrev pub to_broker : Message → Bool
to_broker (Trigger3 target ident service) = true
to_broker (Trigger target ident service) = true
to_broker (Terminated domain port) = true
to_broker message = false

-- ---- what a side has sent

-- nothing, or its greeting and then these messages, each whole and in its written spelling
pub record IsSaid (own : ℕ) (may : Message → Bool) (said : List Message) (sent : List ℕ) : Type 0 where
  pub each : Each (λ m. (may m ≡ true) × IsSpellable m) said
  pub whole : ((sent ≡ []) × (said ≡ [])) ⊎ (sent ≡ flat_map written (Hello own ∷ said))

-- ---- what a side makes of the bytes that it got

-- the version that is agreed on, the messages after the greeting up to the first that is wrong, and what is wrong with it
pub record Heard : Type 0 where
  pub version : Option ℕ
  pub messages : List Message
  pub fault : Option SessionFault

-- the fault with which a stream ends
abbrev pub fault_of_end : Ending Fault → Option SessionFault
fault_of_end (Rest left) = None
fault_of_end (FaultAt at f) = Some (Frame (fault_at at f))

-- the messages before the first that the other side may not send
abbrev pub allowed : (Message → Bool) → List (Placed Message) → List Message
allowed may [] = []
allowed may (p ∷ placed) = if may p.message then p.message ∷ allowed may placed else []

-- the first message that the other side may not send, or else the fault with which the stream ends
abbrev pub first_fault : (Message → Bool) → List (Placed Message) → Ending Fault → Option SessionFault
first_fault may [] ending = fault_of_end ending
first_fault may (p ∷ placed) ending = if may p.message then first_fault may placed ending else Some (WrongSide (offset p.at) (number p.message))

-- a stream of messages, the first of which must be a greeting
abbrev pub hears_on : ℕ → (Message → Bool) → List (Placed Message) → Ending Fault → Heard
hears_on own may [] ending = record { version = None; messages = []; fault = fault_of_end ending }
hears_on own may (p ∷ placed) ending = after_greeting (greeting own p.message)
  where
    after_greeting : Result ℕ HelloFault → Heard
    after_greeting (Ok version) = record { version = Some version; messages = allowed may placed; fault = first_fault may placed ending }
    after_greeting (Err f) = record { version = None; messages = []; fault = Some (fault.Hello f) }

-- what a side of this version hears of another side that may send these messages
abbrev pub hears : ℕ → (Message → Bool) → List ℕ → Heard
hears own may got = hears_on own may (reading Control got).placed (reading Control got).ending
