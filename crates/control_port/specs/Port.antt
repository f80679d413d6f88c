-- What a control port stands for: the messages that its end sent, and those that it handed out.
use Rattle.std.specs.Prelude.{◌≡◌, ◌%◌, ◌^◌, ◌<◌, ℕ, length, Bool, false, List, [], ◌∷◌, ◌++◌, Option, Some, None, IsSome, true, map, Ok}
use Rattle.qrexec_frame.specs.declared.kind.Channel.TheVariants.{Control}
use Rattle.qrexec_frame.specs.declared.message.Message.{Message}
use Rattle.qrexec_frame.specs.Decoding.{DecoderState, StandsFor}
use Rattle.qrexec_frame.specs.Streams.{Placed}
use Rattle.qrexec_frame.specs.Messages.{written, IsSpellable}
use Rattle.qrexec_frame.specs.declared.message.Message.TheVariants.{Hello}
use Rattle.qrexec_hello.specs.Greeting.{greeting}
use Rattle.std.specs.List.{flat_map, AllByRecursion as Each}
use Rattle.list_laws.specs.Lists.{IsPrefixOf}
use Rattle.qrexec_frame.specs.Fronts.{reading}
use Rattle.vchan_packet.specs.declared.SendAnswer.{SendAnswer}
use Rattle.vchan_packet.specs.declared.SendAnswer.TheVariants.{Sent, NoRoom, PeerClosed}
use Rattle.qrexec_data.specs.declared.outcome.SessionFault.{SessionFault}
use Rattle.vchan_rule.specs.Seated.{SeatedEnd, view}
use Rattle.task_duties.specs.Hearing.{hears}
use Rattle.control_port.specs.declared.talk.Talker.{Talker}
use Rattle.control_port.specs.Talking.{may_say, may_hear}

pub record PortState : Type 0 where
  pub end : SeatedEnd
  pub talker : Talker
  pub own : ℕ
  -- whether its greeting was sent
  pub greeted : Bool
  pub decoder : DecoderState
  -- the version that both sides go on with, once the other side's greeting was read, and what is wrong with the bytes got
  pub version : Option ℕ
  pub fault : Option SessionFault

-- nothing was sent before the greeting; then the greeting and these messages were
abbrev pub SentWhole : Bool → ℕ → List Message → List ℕ → Type 0
SentWhole false own said sent = (sent ≡ []) × (said ≡ [])
SentWhole true own said sent = sent ≡ flat_map written (Hello own ∷ said)

-- its end sent the greeting, if that was sent at all, and then these messages
pub record HasSaid (p : PortState) (said : List Message) : Type 0 where
  pub each : Each (λ m. (may_say p.talker m ≡ true) × IsSpellable m) said
  pub whole : SentWhole p.greeted p.own said (view p.end).sent

-- each message is one that may be heard from the other side
abbrev pub EachMay : (Message → Bool) → List (Placed Message) → Type 0
EachMay may placed = Each (λ p. may p.message ≡ true) placed

-- these messages of a stream were heard, the first of them as the greeting
pub data HearsSoFar (own : ℕ) (may : Message → Bool) (given : List (Placed Message)) (version : Option ℕ) (heard : List Message) : Type 0 where
  Nothing : given ≡ [] → version ≡ None → heard ≡ [] → HearsSoFar own may given version heard
  Greeted : (greets : Placed Message) (placed : List (Placed Message)) (v : ℕ) → given ≡ greets ∷ placed → greeting own greets.message ≡ Ok v → version ≡ Some v
      → EachMay may placed → heard ≡ map (λ p. p.message) placed → HearsSoFar own may given version heard

-- these messages were handed out: they are all that follow the greeting in the bytes that the decoder gave out, and nothing was wrong
pub record HasHeard (p : PortState) (heard : List Message) : Type 0 where
  pub given : List (Placed Message)
  pub channel : p.decoder.channel ≡ Control
  pub stands : StandsFor p.decoder (view p.end).got given
  pub fine : p.decoder.fault ≡ None
  pub so_far : HearsSoFar p.own (may_hear p.talker) given p.version heard

-- the decoder gave one message more than these
pub record TakesOne (old new : PortState) (heard : List Message) (m : Message) : Type 0 where
  pub given : List (Placed Message)
  pub at : ℕ
  pub channel : new.decoder.channel ≡ Control
  pub at_is : old.decoder.at ≡ at % 2 ^ 64
  pub fault_is : new.fault ≡ None
  pub fine : new.decoder.fault ≡ None
  pub so_far : HearsSoFar old.own (may_hear old.talker) given old.version heard
  pub stands : StandsFor new.decoder (view new.end).got (given ++ record { at = at; message = m } ∷ [])
  pub begins : IsPrefixOf (given ++ record { at = at; message = m } ∷ []) (reading Control (view new.end).got).placed

-- one message more was sent, or none
abbrev pub HasSaidMore : PortState → List Message → Message → SendAnswer → Type 0
HasSaidMore p said m Sent = HasSaid p (said ++ m ∷ [])
HasSaidMore p said m (NoRoom prod cons) = HasSaid p said
HasSaidMore p said m PeerClosed = HasSaid p said

-- nothing more will be handed out of the bytes got: these messages are all, up to what is wrong
abbrev pub HasHeardAll : PortState → List Message → Type 0
HasHeardAll p heard = hears p.own (may_hear p.talker) (view p.end).got ≡ record { version = p.version; messages = heard; fault = p.fault }

-- the next message was taken, of any type; or none is there, or the bytes are no message
abbrev pub Takes : PortState → PortState → List Message → Option Message → Type 0
Takes old new heard (Some m) = TakesOne old new heard m
Takes old new heard None = HasHeardAll new heard × (new.fault ≡ None → HasHeard new heard)

-- the other side's greeting was taken, or nothing more will be handed out
abbrev pub Greets : PortState → List Message → Bool → Type 0
Greets new heard true = HasHeard new heard × IsSome new.version × (new.fault ≡ None)
Greets new heard false = HasHeardAll new heard × (new.fault ≡ None → HasHeard new heard)

-- one message more was handed out, or all were
abbrev pub Hands : PortState → List Message → Option Message → Type 0
Hands new heard (Some m) = HasHeard new (heard ++ m ∷ []) × (may_hear new.talker m ≡ true) × IsSome new.version × (new.fault ≡ None)
Hands new heard None = HasHeardAll new heard × (new.fault ≡ None → HasHeard new heard)

-- fewer of the bytes got are left to hand out
abbrev pub HasFewerLeft : PortState → PortState → Type 0
HasFewerLeft old new = length new.decoder.left < length old.decoder.left

-- only its end moved
abbrev pub OnlySends : PortState → PortState → Type 0
OnlySends old new = new ≡ record old { end = new.end }

-- its end is as it was, and so is what it sent
abbrev pub OnlyHears : PortState → PortState → Type 0
OnlyHears old new = (new.end ≡ old.end) × (new.talker ≡ old.talker) × (new.own ≡ old.own) × (new.greeted ≡ old.greeted)
