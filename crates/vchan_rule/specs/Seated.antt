-- What a contract sees of a page, of its seats and of its ends.
-- The forms are this project's own.
use Rattle.std.specs.Prelude.{◌≡◌, ℕ, true, is_none, Option}
use Rattle.atomic_table.specs.Seated.{TableId}
use Rattle.ring_words.specs.declared.order.Orders.{Orders}
use Rattle.ring_words.specs.declared.page.Role.{Role}
use Rattle.ring_words.specs.Page.{word_count}
use Rattle.vchan_protocol.specs.declared.call.Call.{Call}
use Rattle.vchan_protocol.specs.declared.call.EndState.TheVariants.{Open}
use Rattle.vchan_protocol.specs.declared.side.Side.{Side}
use Rattle.vchan_core.specs.declared.machine.Machine.{Machine}
use Rattle.end_view.specs.EndView.{EndView, view_of}
use Rattle.end_view.specs.Settled.{Settled, IsSettled}
use Rattle.vchan_rule.specs.declared.rule.Opening.{Opening}

-- the words with which pages begin: the orders of the pages, and the number at which all their indices begin
pub record PageStart : Type 0 where
  pub orders : Orders
  pub start : ℕ

-- a page: its table, its orders, and the number at which all its indices began
pub record PageView : Type 0 where
  pub table : TableId
  pub orders : Orders
  pub start : ℕ

-- a seat of a page whose end has done nothing, and which end that is
pub record SeatView : Type 0 where
  pub page : PageView
  pub role : Role

-- an end: its page, where its indices began, what its seat shows, its machine, and a call that it has begun without an event yet
pub record SeatedEnd : Type 0 where
  pub page : TableId
  pub start : ℕ
  pub side : Side
  pub machine : Machine
  pub begun : Option Call

-- an end that is in no call of its own any more
pub record SeatedSide : Type 0 where
  pub page : TableId
  pub side : Side

-- what the layers above see of an end
abbrev pub view : SeatedEnd → EndView
view e = view_of e.page (is_none e.machine.phase) e.side

abbrev pub last_view : SeatedSide → EndView
last_view e = view_of e.page true e.side

-- it is open, and between two calls
abbrev pub IsOpen : SeatedEnd → Type 0
IsOpen e = ((view e).idle ≡ true) × ((view e).state ≡ Open)

-- the seat of an honest end, which has no machine and no words: its page, what it shows, and a call that it has begun without an event yet
pub record SeatedCall : Type 0 where
  pub page : TableId
  pub side : Side
  pub begun : Option Call

-- an end of this seat, on a page whose indices began at this number, driven by this machine
abbrev pub driven : ℕ → SeatedCall → Machine → SeatedEnd
driven start s m = record { page = s.page; start = start; side = s.side; machine = m; begun = s.begun }

-- these are the words of the seat's page, with what their table was told when it was made
abbrev pub AreWordsOf : TableId → Opening → SeatedCall → Type 0
AreWordsOf table key s = (table ≡ s.page) × (table.words ≡ word_count s.side.orders) × (key.orders ≡ s.side.orders)

-- the words with which a page began
abbrev pub words_of : PageView → PageStart
words_of page = record { orders = page.orders; start = page.start }

-- ---- a page that is done with

-- the words with which such a page began
abbrev pub began_with : Settled → PageStart
began_with page = record { orders = page.orders; start = page.start }

-- what holds of a page of these two ends
abbrev pub settled_page : PageView → SeatedSide → SeatedSide → Settled
settled_page page server client = record { orders = page.orders; start = page.start; server = last_view server; client = last_view client }

-- a page settled by these two ends
pub record IsSettledBy (page : PageView) (server client : SeatedSide) (s : Settled) : Type 0 where
  pub settled : IsSettled s
  pub words_are : began_with s ≡ words_of page
  pub server_is : s.server ≡ last_view server
  pub client_is : s.client ≡ last_view client
