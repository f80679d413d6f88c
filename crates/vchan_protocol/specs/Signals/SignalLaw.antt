-- No signal is lost between two honest ends: an end that asked to be woken, and saw nothing new since, is woken once there is something new.
-- Source: libxenvchan's io.c. An end stores its index before it tests its peer's notify bit, and asks for a signal before it looks at an index again.
use Rattle.std.specs.Prelude.{◌≡◌, ◌≢◌, ◌⊎◌, ℕ, ◌-◌, ◌≤◌, true, Some, None, List, [], ◌∷◌, ◌++◌, length, bit_and}
use Rattle.ring_words.specs.declared.order.Orders.{Orders}
use Rattle.ring_words.specs.declared.page.Role.{Role}
use Rattle.ring_words.specs.declared.page.Role.TheVariants.{Server, Client}
use Rattle.ring_words.specs.declared.page.WordName.{WordName}
use Rattle.vchan_protocol.specs.declared.op.Op.{Op}
use Rattle.vchan_protocol.specs.declared.op.Op.TheVariants.{Store, And}
use Rattle.vchan_protocol.specs.declared.op.PastEvent.{PastEvent}
use Rattle.vchan_protocol.specs.declared.call.Bit.{Bit}
use Rattle.vchan_protocol.specs.declared.call.Bit.TheVariants.{Written, Consumed}
use Rattle.vchan_protocol.specs.declared.call.Call.{Call}
use Rattle.vchan_protocol.specs.declared.call.EndState.{EndState}
use Rattle.vchan_protocol.specs.declared.side.Side.{Side}
use Rattle.vchan_protocol.specs.declared.side.Asked.{Asked}
use Rattle.vchan_protocol.specs.declared.side.Notes.{Notes}
use Rattle.vchan_protocol.specs.Table.Plan.{past, GoesOn}
use Rattle.vchan_protocol.specs.Table.Ends.{written_ring, read_ring, prod_word, cons_word, ask_word, notify_word, peer_live, own_live, peer_gone, own_gone, own_pending, peer_pending, mask, low8, low32}
use Rattle.vchan_protocol.specs.History.Core.{Core, side_of, plan_left, op_next, opened, begun, event}
use Rattle.vchan_protocol.specs.History.WholeCall.{called}
use Rattle.vchan_protocol.specs.History.Peer.{held, peer}
use Rattle.vchan_protocol.specs.Honest.Reached.{IsReached}

-- ---- the words and the events of signals

-- the index by whose store an end does what its peer's bit asks about: it shows bytes, or it releases their places
abbrev pub own_index : Role → Bit → WordName
own_index role Written = prod_word (written_ring role)
own_index role Consumed = cons_word (read_ring role)

-- the index of its peer that an end asks about by a bit
abbrev pub peer_index : Role → Bit → WordName
peer_index role Written = prod_word (read_ring role)
peer_index role Consumed = cons_word (written_ring role)

-- what an end has noted of a bit
abbrev pub asked_of : Notes → Bit → Asked
asked_of notes Written = notes.written
asked_of notes Consumed = notes.consumed

-- an end tests whether its peer asked by a bit, and clears the bit
abbrev pub test_of : Role → Bit → Op
test_of role bit = And (notify_word role) (18446744073709551615 - mask bit)

-- an end stores the signal for its peer
abbrev pub signal_of : Role → Op
signal_of role = Store (peer_pending role) 1

-- ---- where an end is in its call

-- the last event of the call so far was this one
abbrev pub HasJust : Side → Op → Type 0
HasJust s op = (before : List PastEvent) × (taken : ℕ) × (s.trail ≡ before ++ past op taken ∷ [])

-- the end has just made this event, and its next one is the signal
abbrev pub OwesSignal : Core → Role → Op → Type 0
OwesSignal core who op = HasJust (side_of core who) op × (op_next (side_of core who) ≡ signal_of who)

-- the end has just stored its index, and its next event tests the bit
abbrev pub OwesTest : Core → Role → Bit → Type 0
OwesTest core who bit = (index : ℕ) × HasJust (side_of core who) (Store (own_index who bit) index) × (op_next (side_of core who) ≡ test_of who bit)

-- ---- no signal is lost

-- an event waits for the end to take it
abbrev pub IsWoken : Core → Role → Type 0
IsWoken core who = held core (own_pending who) ≢ 0

-- If an end has asked and taken no event since, its bit is set, or its peer has cleared it and owes the signal, or the end is woken.
abbrev pub AskStands : Core → Role → Bit → Type 0
AskStands core who bit =
    (asked_of (side_of core who).notes bit).since ≡ true →
    (bit_and (held core (ask_word who)) (mask bit) ≢ 0) ⊎ (OwesSignal core (peer who) (test_of (peer who) bit) ⊎ IsWoken core who)

-- If an end has asked and taken no event since, and its peer's index isn't the one that it loaded last since it asked,
-- its peer has stored the index and not yet tested the bit, or owes the signal, or the end is woken.
abbrev pub IndexIsTold : Core → Role → Bit → Type 0
IndexIsTold core who bit =
    (index : ℕ) → (asked_of (side_of core who).notes bit).since ≡ true → (asked_of (side_of core who).notes bit).seen ≡ Some index →
    low32 (held core (peer_index who bit)) ≢ index →
    OwesTest core (peer who) bit ⊎ (OwesSignal core (peer who) (test_of (peer who) bit) ⊎ IsWoken core who)

-- If an end loaded its peer's live byte as not 0 and has taken no event since, and the byte is 0 now,
-- its peer has just stored that and owes the signal, or the end is woken.
abbrev pub CloseIsTold : Core → Role → Type 0
CloseIsTold core who =
    (live : ℕ) → (side_of core who).notes.live ≡ Some live → live ≢ 0 → low8 (held core (peer_live who)) ≡ 0 →
    OwesSignal core (peer who) (Store (own_live (peer who)) 0) ⊎ IsWoken core who

-- If an end loaded its peer's gone word as 0 and has taken no event since, and the word isn't 0 now,
-- its peer has just stored that and owes the signal, or the end is woken.
abbrev pub GoneIsTold : Core → Role → Type 0
GoneIsTold core who =
    (side_of core who).notes.gone ≡ Some 0 → held core (peer_gone who) ≢ 0 →
    OwesSignal core (peer who) (Store (own_gone (peer who)) 1) ⊎ IsWoken core who

pub record NoLostSignal (core : Core) : Type 0 where
  pub asks_stand : (who : Role) (bit : Bit) → AskStands core who bit
  pub indices_told : (who : Role) (bit : Bit) → IndexIsTold core who bit
  pub closes_told : (who : Role) → CloseIsTold core who
  pub gone_told : (who : Role) → GoneIsTold core who

-- ---- its laws

-- the page has its header, and each end its role
pub record HasEnds (core : Core) : Type 0 where
  pub header : 14 ≤ length core.words
  pub server_is : core.server.role ≡ Server
  pub client_is : core.client.role ≡ Client

-- it holds on a page on which nothing has happened yet
abbrev pub SignalsAtOpening : Type 0
SignalsAtOpening = (orders : Orders) (start : ℕ) (said : ℕ × ℕ) (state : EndState) → NoLostSignal (opened orders start said state)

-- an end that begins a call keeps it
abbrev pub BeginKeepsSignals : Type 0
BeginKeepsSignals =
    (core : Core) (who : Role) (call : Call) (payload : List ℕ) → (side_of core who).call ≡ None → NoLostSignal core → NoLostSignal (begun core who call payload)

-- each event of an honest end keeps it
abbrev pub EventKeepsSignals : Type 0
EventKeepsSignals = (core : Core) (who : Role) → HasEnds core → GoesOn (plan_left (side_of core who)) → NoLostSignal core → NoLostSignal (event core who)

-- a whole call, while the other end makes no event, keeps it
abbrev pub CallKeepsSignals : Type 0
CallKeepsSignals =
    (core : Core) (who : Role) (call : Call) (payload : List ℕ) → HasEnds core → (side_of core who).call ≡ None → NoLostSignal core → NoLostSignal (called core who call payload)

-- whatever two honest ends do, in any order of their events, no signal is lost
abbrev pub NoSignalIsLost : Type 0
NoSignalIsLost = (core : Core) → IsReached core → NoLostSignal core

-- ---- what an end may rely on while it waits

-- an end has asked and taken no event since, no event waits for it, and its peer is between two calls
pub record IsWaiting (core : Core) (who : Role) (bit : Bit) : Type 0 where
  pub asked : (asked_of (side_of core who).notes bit).since ≡ true
  pub unwoken : held core (own_pending who) ≡ 0
  pub peer_idle : (side_of core (peer who)).call ≡ None

-- its bit is set, so the peer's next bytes are signalled; the peer's index is the one that it loaded last since it asked, the peer has not closed since it loaded the live byte, and has not gone since it loaded the gone word
pub record MissesNothing (core : Core) (who : Role) (bit : Bit) : Type 0 where
  pub bit_stands : bit_and (held core (ask_word who)) (mask bit) ≢ 0
  pub index_stands : (index : ℕ) → (asked_of (side_of core who).notes bit).seen ≡ Some index → low32 (held core (peer_index who bit)) ≡ index
  pub peer_open : (live : ℕ) → (side_of core who).notes.live ≡ Some live → live ≢ 0 → low8 (held core (peer_live who)) ≢ 0
  pub peer_here : (side_of core who).notes.gone ≡ Some 0 → held core (peer_gone who) ≡ 0

-- an end that waits while no signal is lost misses nothing
abbrev pub WaitMissesNothing : Type 0
WaitMissesNothing = (core : Core) (who : Role) (bit : Bit) → NoLostSignal core → IsWaiting core who bit → MissesNothing core who bit
