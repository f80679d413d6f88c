-- What a turn of the task of the broker did for one domain: it moved something, or it found nothing to move.
-- Source: this project's own.
use Rattle.std.specs.Prelude.{◌≡◌, ◌≢◌, ◌⊎◌, ℕ, ◌<◌, ◌≤◌, Bool, true, false, List, [], ◌∷◌, length, take, Option, None, IsSome}
use Rattle.vchan_protocol.specs.declared.call.Answer.TheVariants.{Connected, Gone}
use Rattle.vchan_protocol.specs.declared.call.Call.TheVariants.{Connect, PeerGone}
use Rattle.vchan_protocol.specs.declared.call.EndState.TheVariants.{Fresh, Open}
use Rattle.vchan_protocol.specs.Table.Calls.{Trace}
use Rattle.vchan_protocol.specs.History.Core.{standing_of}
use Rattle.vchan_notify.specs.Notify.{HasFoundGone}
use Rattle.vchan_lifecycle.specs.Lifecycle.{FindsNotYet}
use Rattle.vchan_packet.specs.Packet.{FailsToSend}
use Rattle.vchan_rule.specs.Seated.{SeatedEnd, view}
use Rattle.vchan_rule.specs.Ends.{IsSameEnd}
use Rattle.control_port.specs.Port.{PortState}
use Rattle.qrexec_frame.specs.Messages.{written}
use Rattle.qrexec_frame.specs.declared.message.Message.TheVariants.{Hello}
use Rattle.task_duties.specs.Broker.Owes.{broker_version}
use Rattle.broker_task.specs.declared.outbox.Letter.{Letter}
use Rattle.broker_task.specs.declared.daemon.Daemon.{Daemon}
use Rattle.broker_task.specs.Letters.{IsAt, AreHeld}
use Rattle.broker_task.specs.Lines.{is_begun, is_shut}

-- one domain: the broker's port on its control page, whose end has the events of its last call, and the letters that wait
pub record BrokerLine : Type 0 where
  pub port : PortState
  pub letters : List Letter

abbrev pub line_of : Daemon → BrokerLine
line_of x = record { port = x.port; letters = x.outbox.letters.items }

-- ---- letters, from one moment to a later one

-- the same letters wait, of which some may have been let go, and others after them
abbrev pub IsLater : List Letter → List Letter → Type 0
IsLater [] later = Unit {0}
IsLater (l ∷ letters) [] = ⊥
IsLater (l ∷ letters) (k ∷ later) = (k.message ≡ l.message) × (k.held ≡ true → l.held ≡ true) × IsLater letters later

-- ---- one call of an end that finds nothing to move

-- an end that is fresh connects before its first drain
abbrev pub Begins : SeatedEnd → SeatedEnd → Type 0
Begins old new = (new ≡ old) ⊎ (((view old).state ≡ Fresh) × IsSameEnd old new × Trace (standing_of old.side) Connect new.side.trail Connected)

-- the end asked whether its peer is gone, which it isn't
pub record FindsHere (old new : SeatedEnd) : Type 0 where
  pub trail : Trace (standing_of old.side) PeerGone new.side.trail (Gone false)
  pub here : HasFoundGone new.side → ⊥

-- ---- what lasts

-- what was heard from a domain and what was said to it only grow, and one that was dropped stays so
pub record Grows (old new : SeatedEnd) : Type 0 where
  pub got : length (view old).got ≤ length (view new).got
  pub sent : length (view old).sent ≤ length (view new).sent
  pub shut : is_shut (view old).state ≡ true → is_shut (view new).state ≡ true

-- ---- one domain in a turn

-- nothing was heard: its drain found no byte yet, or it wasn't drained since as many letters wait as fill its outbox, and it is there
pub record HearsNothing (version : Option ℕ) (letters : List Letter) (old new : SeatedEnd) : Type 0 where
  pub began : SeatedEnd
  pub begins : Begins old began
  pub same : IsSameEnd began new
  pub finds : FindsNotYet began new ⊎ (IsSome version × (64 ≤ length letters) × FindsHere began new)

-- nothing was said: the domain hasn't greeted; or all letters are held; or there was no room for the broker's own greeting, or for the first letter that isn't held
pub data SaysNothing (version : Option ℕ) (greeted : Bool) (letters : List Letter) (old new : SeatedEnd) : Type 0 where
  has_not_greeted : version ≡ None → new ≡ old → SaysNothing version greeted letters old new
  all_held : greeted ≡ true → AreHeld letters → new ≡ old → SaysNothing version greeted letters old new
  greeting_waits : greeted ≡ false → IsSameEnd old new → FailsToSend (written (Hello broker_version)) old new → SaysNothing version greeted letters old new
  letter_waits : (at : ℕ) (l : Letter) → greeted ≡ true → IsAt letters at l → l.held ≡ false → AreHeld (take at letters) → IsSameEnd old new → FailsToSend (written l.message) old new → SaysNothing version greeted letters old new

-- something was heard from it, or said to it
abbrev pub HasMoved : BrokerLine → BrokerLine → Type 0
HasMoved old new = (length (view old.port.end).got < length (view new.port.end).got) ⊎ (length (view old.port.end).sent < length (view new.port.end).sent)

-- nothing was heard and nothing said; between the two its end was `heard`, and these letters waited
pub record IsQuiet (old new : BrokerLine) : Type 0 where
  pub heard : SeatedEnd
  pub letters : List Letter
  pub before : IsLater old.letters letters
  pub after : IsLater letters new.letters
  pub hears : HearsNothing old.port.version letters old.port.end heard
  pub says : SaysNothing new.port.version new.port.greeted letters heard new.port.end

-- the broker has connected; nothing of a domain was lost, and one that isn't dropped moved or was quiet
pub record HasTurned (old new : BrokerLine) : Type 0 where
  pub begun : is_begun (view new.port.end).state ≡ true
  pub grows : Grows old.port.end new.port.end
  pub found : is_shut (view new.port.end).state ≡ false → HasMoved old new ⊎ IsQuiet old new

-- ---- the steps of a turn, domain by domain

-- its port is as it was, and what waited still waits
pub record StandsBy (x y : Daemon) : Type 0 where
  pub port : y.port ≡ x.port
  pub later : IsLater x.outbox.letters.items y.outbox.letters.items

-- what has come was taken, or there was nothing; it wasn't dropped before
pub record Listens (x y : Daemon) : Type 0 where
  pub up : is_shut (view x.port.end).state ≡ false
  pub grows : Grows x.port.end y.port.end
  pub sent : (view y.port.end).sent ≡ (view x.port.end).sent
  pub letters : y.outbox.letters.items ≡ x.outbox.letters.items
  pub found : (length (view x.port.end).got < length (view y.port.end).got) ⊎ HearsNothing x.port.version x.outbox.letters.items x.port.end y.port.end

-- of a domain that is to be dropped only that nothing was lost
abbrev pub ListensAsTold : Bool → Daemon → Daemon → Type 0
ListensAsTold true x y = Listens x y
ListensAsTold false x y = Grows x.port.end y.port.end

-- what was taken was decided
pub record Decides (x y : Daemon) : Type 0 where
  pub end : y.port.end ≡ x.port.end
  pub later : IsLater x.outbox.letters.items y.outbox.letters.items

-- something was sent
pub record SendsMore (x y : Daemon) : Type 0 where
  pub got : (view y.port.end).got ≡ (view x.port.end).got
  pub more : length (view x.port.end).sent < length (view y.port.end).sent

-- something was sent, or there was nothing that could be
pub record SendsOrNot (x y : Daemon) : Type 0 where
  pub up : (view y.port.end).state ≡ Open
  pub got : (view y.port.end).got ≡ (view x.port.end).got
  pub sends : (length (view x.port.end).sent < length (view y.port.end).sent)
      ⊎ (SaysNothing y.port.version y.port.greeted x.outbox.letters.items x.port.end y.port.end × IsLater x.outbox.letters.items y.outbox.letters.items)

-- the broker's greeting was sent, now or before, or it couldn't be
abbrev pub GreetsAsTold : Bool → Daemon → Daemon → Type 0
GreetsAsTold true x y = (y ≡ x) ⊎ SendsMore x y
GreetsAsTold false x y = SaysNothing y.port.version y.port.greeted x.outbox.letters.items x.port.end y.port.end

abbrev pub SendsAsTold : Bool → Daemon → Daemon → Type 0
SendsAsTold true x y = SendsMore x y
SendsAsTold false x y = SendsOrNot x y

-- the messages so far
abbrev pub SendsSoFar : Daemon → Daemon → Type 0
SendsSoFar x y = (y ≡ x) ⊎ SendsMore x y

-- it was dropped
pub record IsDropped (x y : Daemon) : Type 0 where
  pub grows : Grows x.port.end y.port.end
  pub shut : is_shut (view y.port.end).state ≡ true

-- the whole turn of one domain
abbrev pub Turns : Daemon → Daemon → Type 0
Turns x y = HasTurned (line_of x) (line_of y)

-- one domain makes a step, and the others stand by
pub record Steps (domain : ℕ) (R : Daemon → Daemon → Type 0) (d : ℕ) (x y : Daemon) : Type 0 where
  pub own : d ≡ domain → R x y
  pub others : d ≢ domain → StandsBy x y
