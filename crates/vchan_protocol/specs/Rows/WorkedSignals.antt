-- A worked row of signals, in which a request stands, and a test and a signal are owed: a server's read finds nothing and asks, then a client writes a byte, event by event.
-- In the second row the client closes instead. In the third it has closed, the server has taken that event and loaded the gone word, and the client retires.
use Rattle.std.specs.Prelude.{◌≡◌, true, false, Some, [], ◌∷◌, bit_and}
use Rattle.ring_words.specs.Rings.{number_of}
use Rattle.ring_words.specs.declared.order.Orders.{Orders}
use Rattle.ring_words.specs.declared.page.Role.TheVariants.{Server, Client}
use Rattle.ring_words.specs.declared.page.WordName.TheVariants.{LeftProd, CliNotify, CliLive, CliGone, SrvPending}
use Rattle.vchan_protocol.specs.declared.op.Op.TheVariants.{Store}
use Rattle.vchan_protocol.specs.declared.call.Answer.TheVariants.{Empty, Event, Gone}
use Rattle.vchan_protocol.specs.declared.call.Bit.TheVariants.{Written}
use Rattle.vchan_protocol.specs.declared.call.Call.TheVariants.{Write, Read, Close, TakeEvent, Retire, PeerGone}
use Rattle.vchan_protocol.specs.declared.call.EndState.TheVariants.{Open}
use Rattle.vchan_protocol.specs.History.Core.{Core, opened, begun, nothing_noted}
use Rattle.vchan_protocol.specs.History.WholeCall.{called, call_answer}
use Rattle.vchan_protocol.specs.History.Peer.{held}
use Rattle.vchan_protocol.specs.Signals.SignalLaw.{asked_of, test_of, OwesTest, OwesSignal, IsWoken}
use Rattle.vchan_protocol.specs.Rows.WorkedRow.{events_of}

-- an open page whose server has read, found nothing and asked
abbrev pub asked : Orders → Core
asked orders = called (opened orders 0 (10, 11) Open) Server (Read 1) []

-- then the client writes a byte: its index is stored by its fourth event, and its fifth tests the bit
abbrev pub index_stored : Orders → Core
index_stored orders = events_of Client 4 (begun (asked orders) Client (Write 1) (104 ∷ []))

abbrev pub bit_tested : Orders → Core
bit_tested orders = events_of Client 1 (index_stored orders)

abbrev pub signal_stored : Orders → Core
signal_stored orders = events_of Client 1 (bit_tested orders)

-- or the client closes, and has made the first event of that
abbrev pub live_cleared : Orders → Core
live_cleared orders = events_of Client 1 (begun (asked orders) Client Close [])

-- or it has closed already and the server has taken that event; then the server checks whether it is gone
abbrev pub close_taken : Orders → Core
close_taken orders = called (called (asked orders) Client Close []) Server TakeEvent []

abbrev pub gone_loaded : Orders → Core
gone_loaded orders = called (close_taken orders) Server PeerGone []

-- the client retires, and has made the first event of that
abbrev pub gone_stored : Orders → Core
gone_stored orders = events_of Client 1 (begun (gone_loaded orders) Client Retire [])

-- what each of these comes to
pub record IsWorkedSignal (orders : Orders) : Type 0 where
  pub left : number_of orders.left ≡ 10
  pub right : number_of orders.right ≡ 11
  -- the server has asked and seen the index 0, and its bit is set
  pub answer : call_answer (opened orders 0 (10, 11) Open) Server (Read 1) [] ≡ Empty 0 0
  pub since : (asked_of (asked orders).server.notes Written).since ≡ true
  pub seen : (asked_of (asked orders).server.notes Written).seen ≡ Some 0
  pub live : (asked orders).server.notes.live ≡ Some 1
  pub bit : bit_and (held (asked orders) CliNotify) 1 ≡ 1
  -- a try finds no event, and leaves what it has noted
  pub tries : call_answer (asked orders) Server TakeEvent [] ≡ Event false
  pub stays_noted : (called (asked orders) Server TakeEvent []).server.notes ≡ (asked orders).server.notes
  -- the index is another one, and the client is about to test the bit
  pub index : held (index_stored orders) LeftProd ≡ 1
  pub test_owed : OwesTest (index_stored orders) Client Written
  -- it has cleared the bit, and is about to signal
  pub cleared : bit_and (held (bit_tested orders) CliNotify) 1 ≡ 0
  pub signal_owed : OwesSignal (bit_tested orders) Client (test_of Client Written)
  -- the server is woken
  pub woken : IsWoken (signal_stored orders) Server
  pub event : call_answer (signal_stored orders) Server TakeEvent [] ≡ Event true
  pub taken : held (called (signal_stored orders) Server TakeEvent []) SrvPending ≡ 0
  pub noted : (called (signal_stored orders) Server TakeEvent []).server.notes ≡ nothing_noted
  -- the live byte is 0, and the client is about to signal
  pub closed : held (live_cleared orders) CliLive ≡ 0
  pub close_owed : OwesSignal (live_cleared orders) Client (Store CliLive 0)
  -- the server has noted the gone word as 0 and no event waits for it; then the word is 1, and the client is about to signal
  pub stays : call_answer (close_taken orders) Server PeerGone [] ≡ Gone false
  pub gone_noted : (gone_loaded orders).server.notes.gone ≡ Some 0
  pub unwoken : held (gone_stored orders) SrvPending ≡ 0
  pub gone : held (gone_stored orders) CliGone ≡ 1
  pub gone_owed : OwesSignal (gone_stored orders) Client (Store CliGone 1)

abbrev pub SignalIsAsWorked : Type 0
SignalIsAsWorked = (orders : Orders) × IsWorkedSignal orders
