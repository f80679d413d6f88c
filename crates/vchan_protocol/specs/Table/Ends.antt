-- An end: what it knows when it begins a call, and which words of the page are whose.
-- Source: Xen's public/io/libxenvchan.h for the fields; the client writes the left ring, as in libxenvchan's init.c. The pending and gone words are this project's.
use Rattle.std.specs.Prelude.{ℕ, ◌%◌, ◌^◌, suc, zero}
use Rattle.ring_words.specs.Rings.{ready, room, size}
use Rattle.ring_words.specs.Page.{order_of}
use Rattle.ring_words.specs.declared.order.Order.{Order}
use Rattle.ring_words.specs.declared.order.Orders.{Orders}
use Rattle.ring_words.specs.declared.page.Role.{Role}
use Rattle.ring_words.specs.declared.page.Role.TheVariants.{Server, Client}
use Rattle.ring_words.specs.declared.page.Ring.{Ring}
use Rattle.ring_words.specs.declared.page.Ring.TheVariants.{Left, Right}
use Rattle.ring_words.specs.declared.page.WordName.{WordName}
use Rattle.ring_words.specs.declared.page.WordName.TheVariants.{LeftCons, LeftProd, RightCons, RightProd, SrvGone, CliGone, CliLive, SrvLive, CliNotify, SrvNotify, SrvPending, CliPending}
use Rattle.vchan_protocol.specs.declared.call.Bit.{Bit}
use Rattle.vchan_protocol.specs.declared.call.Bit.TheVariants.{Written, Consumed}
use Rattle.vchan_protocol.specs.declared.call.EndState.{EndState}
use Rattle.vchan_protocol.specs.declared.call.EndState.TheVariants.{Open, Shut}
use Rattle.vchan_protocol.specs.declared.op.Op.{Op}
use Rattle.vchan_protocol.specs.declared.op.Op.TheVariants.{Store}

-- what an end knows when it begins a call: its role, the orders of the page, its state, its own two counts
pub record Standing : Type 0 where
  pub role : Role
  pub orders : Orders
  pub state : EndState
  pub prod : ℕ
  pub cons : ℕ

-- the ring that an end writes, and the one that it reads
abbrev pub written_ring : Role → Ring
written_ring Server = Right
written_ring Client = Left

abbrev pub read_ring : Role → Ring
read_ring Server = Left
read_ring Client = Right

abbrev pub prod_word : Ring → WordName
prod_word Left = LeftProd
prod_word Right = RightProd

abbrev pub cons_word : Ring → WordName
cons_word Left = LeftCons
cons_word Right = RightCons

-- where an end asks for a signal, and where its peer asked
abbrev pub ask_word : Role → WordName
ask_word Server = CliNotify
ask_word Client = SrvNotify

abbrev pub notify_word : Role → WordName
notify_word Server = SrvNotify
notify_word Client = CliNotify

abbrev pub peer_live : Role → WordName
peer_live Server = CliLive
peer_live Client = SrvLive

abbrev pub own_live : Role → WordName
own_live Server = SrvLive
own_live Client = CliLive

abbrev pub own_pending : Role → WordName
own_pending Server = SrvPending
own_pending Client = CliPending

abbrev pub own_gone : Role → WordName
own_gone Server = SrvGone
own_gone Client = CliGone

abbrev pub peer_gone : Role → WordName
peer_gone Server = CliGone
peer_gone Client = SrvGone

abbrev pub peer_pending : Role → WordName
peer_pending Server = CliPending
peer_pending Client = SrvPending

abbrev pub mask : Bit → ℕ
mask Written = 1
mask Consumed = 2

-- the bits that a load takes
abbrev pub low8 : ℕ → ℕ
low8 value = value % 2 ^ 8

abbrev pub low16 : ℕ → ℕ
low16 value = value % 2 ^ 16

abbrev pub low32 : ℕ → ℕ
low32 value = value % 2 ^ 32

-- ---- an end after an event of its own

-- the own counts after an event: an index store of the end's own makes its count
abbrev pub prod_stored : WordName → Role → ℕ → ℕ → ℕ
prod_stored LeftProd Client value count = low32 value
prod_stored RightProd Server value count = low32 value
prod_stored _ _ value count = count

abbrev pub prod_after : Op → Role → ℕ → ℕ
prod_after (Store word value) role count = prod_stored word role value count
prod_after _ role count = count

abbrev pub cons_stored : WordName → Role → ℕ → ℕ → ℕ
cons_stored LeftCons Server value count = low32 value
cons_stored RightCons Client value count = low32 value
cons_stored _ _ value count = count

abbrev pub cons_after : Op → Role → ℕ → ℕ
cons_after (Store word value) role count = cons_stored word role value count
cons_after _ role count = count

-- an end is shut by its store of 0 in its live byte, and a client is open by its store of 1
abbrev pub live_stored : WordName → Role → ℕ → EndState → EndState
live_stored CliLive Client zero state = Shut
live_stored CliLive Client (suc value) state = Open
live_stored SrvLive Server value state = Shut
live_stored _ _ value state = state

abbrev pub state_after : Op → Role → EndState → EndState
state_after (Store word value) role state = live_stored word role value state
state_after _ role state = state

-- the standing of an end after an event of its own
unfoldable pub standing_after : Standing → Op → Standing
standing_after e op = record {
  role = e.role;
  orders = e.orders;
  state = state_after op e.role e.state;
  prod = prod_after op e.role e.prod;
  cons = cons_after op e.role e.cons;
}

-- ---- the rings of an end

abbrev pub write_order : Standing → Order
write_order e = order_of e.orders (written_ring e.role)

abbrev pub read_order : Standing → Order
read_order e = order_of e.orders (read_ring e.role)

abbrev pub write_size : Standing → ℕ
write_size e = size (write_order e)

abbrev pub read_size : Standing → ℕ
read_size e = size (read_order e)

-- how many bytes have room if the consumer index is this, and how many wait if the producer index is this
abbrev pub free_at : Standing → ℕ → ℕ
free_at e cons = room e.prod cons (write_order e)

abbrev pub ready_at : Standing → ℕ → ℕ
ready_at e prod = ready prod e.cons (read_order e)
