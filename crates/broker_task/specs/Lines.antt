-- One domain at the task of the broker: its port, what was read by it, and what was sent.
-- Source: this project's own.
use Rattle.std.specs.Prelude.{◌≡◌, ◌≢◌, ◌⊎◌, ℕ, Bool, true, false, List, [], ◌∷◌, ◌++◌, filter_map, take, Option, Some, None, IsSome, IsSomeAnd}
use Rattle.std.specs.List.{remove}
use Rattle.ring_words.specs.declared.page.Role.TheVariants.{Client}
use Rattle.vchan_protocol.specs.declared.call.EndState.{EndState}
use Rattle.vchan_protocol.specs.declared.call.EndState.TheVariants.{Fresh, Open, Shut}
use Rattle.vchan_lifecycle.specs.declared.DrainAnswer.{DrainAnswer}
use Rattle.vchan_lifecycle.specs.declared.DrainAnswer.TheVariants.{More, NotYet, AllRead, PeerGone}
use Rattle.vchan_rule.specs.Seated.{SeatedEnd, view}
use Rattle.end_view.specs.EndView.{EndView, state_at_first}
use Rattle.qrexec_frame.specs.declared.message.Message.{Message}
use Rattle.qrexec_frame.specs.Messages.{IsSpellable}
use Rattle.qrexec_frame.specs.Texts.{FitsText}
use Rattle.call_broker.specs.declared.event.Event.{Event}
use Rattle.call_broker.specs.declared.event.Event.TheVariants.{Trigger, Terminated, Dropped}
use Rattle.control_port.specs.declared.talk.Talker.TheVariants.{Broker}
use Rattle.control_port.specs.Port.{HasSaid, HasHeard}
use Rattle.task_duties.specs.Hearing.{to_agent, to_broker, Heard, hears}
use Rattle.task_duties.specs.Broker.Outbox.{event_of, is_from}
use Rattle.task_duties.specs.Broker.Owes.{broker_version}
use Rattle.broker_task.specs.declared.outbox.Letter.{Letter}
use Rattle.broker_task.specs.declared.daemon.Daemon.{Daemon}
use Rattle.broker_task.specs.Letters.{IsAt, AreHeld}

-- ---- its end

abbrev pub end_of : Daemon → EndView
end_of x = view x.port.end

abbrev pub is_shut : EndState → Bool
is_shut Fresh = false
is_shut Open = false
is_shut Shut = true

abbrev pub is_begun : EndState → Bool
is_begun Fresh = false
is_begun Open = true
is_begun Shut = true

-- its end was retired when the domain was dropped
abbrev pub is_gone : Daemon → Bool
is_gone x = is_shut (end_of x).state

-- an end as it was given, read off what it is now
abbrev pub first_view : EndView → EndView
first_view e = record e { state = state_at_first e.role; idle = true; sent = []; got = []; saw = false; ended = None; drained = false; misled = false; retired = false }

-- what is seen of the broker's end of a control page: its view, and the gone word of its peer, as the end loaded it last
pub record BrokerEnd : Type 0 where
  pub view : EndView
  pub gone : Option ℕ

abbrev pub seen_end : SeatedEnd → BrokerEnd
seen_end e = record { view = view e; gone = e.side.notes.gone }

abbrev pub broker_end : Daemon → BrokerEnd
broker_end x = seen_end x.port.end

-- what the broker hears of a domain by such an end
abbrev pub heard_by : EndView → Heard
heard_by e = hears broker_version to_broker e.got

-- its peer is done with the page: a drain said that all was read or that the peer is gone, or the peer's gone word was loaded as not 0
pub record HasSeenEnd (e : BrokerEnd) : Type 0 where
  pub saw : e.view.saw ≡ true
  pub how : IsSome e.view.ended ⊎ IsSomeAnd e.gone (λ gone. gone ≢ 0)

-- a domain may be dropped: its peer is done with the page, its connect was refused, or what the domain sent is wrong
abbrev pub MayDrop : BrokerEnd → Type 0
MayDrop e = HasSeenEnd e ⊎ (e.view.misled ≡ true) ⊎ IsSome (heard_by e.view).fault

-- a domain must be dropped: its connect was refused, a drain ended its stream, or what the domain sent is wrong
abbrev pub MustDrop : EndView → Type 0
MustDrop e = (e.misled ≡ true) ⊎ IsSome e.ended ⊎ IsSome (heard_by e).fault

-- whether more may come after this answer of a drain
abbrev pub more_may_come : DrainAnswer → Bool
more_may_come (More count) = true
more_may_come (NotYet prod cons) = true
more_may_come AllRead = false
more_may_come (PeerGone prod cons) = false

-- its connect wasn't refused, and no drain ended its stream
abbrev pub IsGoing : EndView → Type 0
IsGoing e = (e.misled ≡ false) × (e.ended ≡ None)

-- the port of the domain of this number
pub record IsLine (d : ℕ) (x : Daemon) : Type 0 where
  pub number : x.domain ≡ d
  pub talker : x.port.talker ≡ Broker
  pub own : x.port.own ≡ broker_version
  pub idle : (end_of x).idle ≡ true
  pub client : (end_of x).role ≡ Client
  pub honest : (end_of x).turned ≡ false
  pub retired : is_gone x ≡ true → (end_of x).retired ≡ true
  pub cause : is_gone x ≡ true → MayDrop (broker_end x)
  -- it greets only once the domain's greeting was read
  pub greets : x.port.greeted ≡ true → IsSome x.port.version

-- ---- what was read

-- the events in the bytes got, up to what is wrong
abbrev pub events_got : Daemon → List Event
events_got x = filter_map (event_of x.domain) (heard_by (end_of x)).messages

-- these events were handed out, and nothing was wrong
pub record ReadsOn (x : Daemon) (events : List Event) : Type 0 where
  pub heard : List Message
  pub hears_them : HasHeard x.port heard
  pub are : events ≡ filter_map (event_of x.domain) heard
  pub fine : x.port.fault ≡ None

-- all events in the bytes got were handed out, up to what is wrong, and they are these
pub record HasReadAll (x : Daemon) (events : List Event) : Type 0 where
  pub all : events_got x ≡ events
  pub version : (heard_by (end_of x)).version ≡ x.port.version
  pub faulty : (heard_by (end_of x)).fault ≡ x.port.fault
  pub on : x.port.fault ≡ None → ReadsOn x events

-- the same, between two turns: a domain that wasn't dropped is going, and nothing is wrong with what came from it
pub record HasRead (x : Daemon) (events : List Event) : Type 0 where
  pub all : events_got x ≡ events
  pub version : (heard_by (end_of x)).version ≡ x.port.version
  pub on : is_gone x ≡ false → ReadsOn x events
  pub going : is_gone x ≡ false → IsGoing (end_of x)
  pub fine : is_gone x ≡ false → (heard_by (end_of x)).fault ≡ None

-- the texts of an event have room in the messages that answer it
abbrev pub HasRoom : Event → Type 0
HasRoom (Trigger from target service ident) = FitsText 31 ident × FitsText 65439 service
HasRoom (Terminated from other port) = Unit {0}
HasRoom (Dropped domain) = ⊥

-- one event more was handed out, or all were
abbrev pub HandsOut : Daemon → List Event → Option Event → Type 0
HandsOut x events (Some event) = ReadsOn x (events ++ event ∷ []) × (is_from x.domain event ≡ true) × HasRoom event
HandsOut x events None = HasReadAll x events

-- ---- what was sent

-- a message that the broker may send, and that has a spelling
abbrev pub IsReply : Message → Type 0
IsReply m = (to_agent m ≡ true) × IsSpellable m

-- the first of its letters that isn't held was sent, or none
abbrev pub SendsOne : Daemon → Daemon → List Message → Option Message → Type 0
SendsOne old new said (Some m) =
    (at : ℕ) × (l : Letter) × IsAt old.outbox.letters.items at l × (l.held ≡ false) × (m ≡ l.message) × (new.outbox.letters.items ≡ remove old.outbox.letters.items at)
    × HasSaid new.port (said ++ m ∷ []) × AreHeld (take at old.outbox.letters.items)
SendsOne old new said None = (new.outbox.letters.items ≡ old.outbox.letters.items) × HasSaid new.port said

-- ---- what stays

-- another state of the same domain, with the same number, awaited calls and end as it was given
pub record IsSameDaemon (old new : Daemon) : Type 0 where
  pub domain : new.domain ≡ old.domain
  pub awaited : new.awaited ≡ old.awaited
  pub given : first_view (end_of new) ≡ first_view (end_of old)

-- its end is one of the same page with the same role, which is so even where memory ran out
pub record KeepsEnd (old new : Daemon) : Type 0 where
  pub domain : new.domain ≡ old.domain
  pub page : (end_of new).page ≡ (end_of old).page
  pub role : (end_of new).role ≡ (end_of old).role

-- only its port has changed
abbrev pub OnlyPort : Daemon → Daemon → Type 0
OnlyPort old new = new ≡ record old { port = new.port }
