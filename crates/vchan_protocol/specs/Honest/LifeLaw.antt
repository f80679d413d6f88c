-- What holds of the lives of two honest ends: the live bytes, the gone words, the order words, and the end of a stream.
-- Source: libxenvchan's io.c for the live bytes and init.c for the order words. The gone words and a drain's later looks are this project's.
use Rattle.std.specs.Prelude.{◌≡◌, ◌≢◌, ℕ, Bool, true, false, ◌||◌, IsSome, List, [], ◌∷◌, length, if◌then◌else◌}
use Rattle.ring_words.specs.declared.order.Orders.{Orders}
use Rattle.ring_words.specs.declared.page.Role.{Role}
use Rattle.ring_words.specs.declared.page.Role.TheVariants.{Server, Client}
use Rattle.ring_words.specs.declared.page.WordName.{WordName}
use Rattle.ring_words.specs.declared.page.WordName.TheVariants.{LeftProd, RightProd, LeftOrder, RightOrder}
use Rattle.ring_words.specs.Rings.{number_of}
use Rattle.vchan_protocol.specs.declared.op.Op.{Op}
use Rattle.vchan_protocol.specs.declared.op.Op.TheVariants.{Load}
use Rattle.vchan_protocol.specs.declared.op.PastEvent.{PastEvent}
use Rattle.vchan_protocol.specs.declared.call.EndState.{EndState}
use Rattle.vchan_protocol.specs.declared.call.EndState.TheVariants.{Fresh, Shut}
use Rattle.vchan_protocol.specs.declared.side.Side.{Side}
use Rattle.vchan_protocol.specs.Table.Ends.{low32, own_live, own_gone}
use Rattle.vchan_protocol.specs.History.Page.{live_word}
use Rattle.vchan_protocol.specs.History.Core.{Core, side_of, sees_end}
use Rattle.vchan_protocol.specs.Honest.RingLaw.{index_at, word_at}

-- ---- the words of a page

-- a gone word is 1 if its end is retired and 0 if it isn't; a retired end is shut
pub record TellsGone (gone : ℕ) (retired : Bool) (state : EndState) : Type 0 where
  pub word : gone ≡ (if retired then 1 else 0)
  pub shut : retired ≡ true → state ≡ Shut

-- the live byte and the gone word of an end tell its state, and whether it is retired
pub record WordsTell (core : Core) (who : Role) : Type 0 where
  pub live : word_at core.orders core.words (own_live who) ≡ live_word (side_of core who).state
  pub gone : TellsGone (word_at core.orders core.words (own_gone who)) (side_of core who).retired (side_of core who).state

-- ---- what a trail shows its end

-- the peer's live byte is loaded as 0, or its gone word as not 0
abbrev pub shows_end : Op → Role → ℕ → Bool
shows_end (Load word) role taken = sees_end word role taken
shows_end _ role taken = false

-- one of the events shows the end that its peer is shut
abbrev pub has_seen : Role → List PastEvent → Bool
has_seen role [] = false
has_seen role (event ∷ events) = shows_end event.op role event.taken || has_seen role events

-- if the end loads the producer index of the ring that it reads, it takes this one
abbrev pub LoadGives : ℕ → WordName → Role → ℕ → Type 0
LoadGives index LeftProd Server taken = low32 taken ≡ index
LoadGives index RightProd Client taken = low32 taken ≡ index
LoadGives index _ _ taken = Unit {0}

abbrev pub LookGives : ℕ → Op → Role → ℕ → Type 0
LookGives index (Load word) role taken = LoadGives index word role taken
LookGives index _ role taken = Unit {0}

-- if the end has seen its peer's end, before these events or in one of them, each producer index that it loads later is this one
abbrev pub LooksGive : ℕ → Role → Bool → List PastEvent → Type 0
LooksGive index role seen [] = Unit {0}
LooksGive index role seen (event ∷ events) =
    (seen ≡ true → LookGives index event.op role event.taken) × LooksGive index role (seen || shows_end event.op role event.taken) events

-- if an order word is loaded, it is that of the start
abbrev pub SaidGives : ℕ × ℕ → WordName → ℕ → Type 0
SaidGives said LeftOrder taken = taken ≡ said.0
SaidGives said RightOrder taken = taken ≡ said.1
SaidGives said _ taken = Unit {0}

abbrev pub OrderGives : ℕ × ℕ → Op → ℕ → Type 0
OrderGives said (Load word) taken = SaidGives said word taken
OrderGives said _ taken = Unit {0}

-- each order word that was loaded in these events is that of the start
abbrev pub OrdersGive : ℕ × ℕ → List PastEvent → Type 0
OrdersGive said [] = Unit {0}
OrdersGive said (event ∷ events) = OrderGives said event.op event.taken × OrdersGive said events

-- ---- the laws

-- what an end has seen of its peer: once it has seen it shut, in its last call or at any time while it wasn't shut itself, the peer is shut,
-- and a producer index that it loaded later in that call counts all that the peer sent
pub record SightLawful (start : ℕ) (mine theirs : Side) : Type 0 where
  pub saw : mine.saw ≡ true → theirs.state ≡ Shut
  pub seen : has_seen mine.role mine.trail ≡ true → theirs.state ≡ Shut
  pub later : LooksGive (index_at start (length theirs.sent)) mine.role false mine.trail

-- a drained ring has a shut writer, and all that was sent is got; a ring whose reader has ended is drained
pub record StreamLawful (writer reader : Side) : Type 0 where
  pub shut : reader.drained ≡ true → writer.state ≡ Shut
  pub all : reader.drained ≡ true → reader.got ≡ writer.sent
  pub ended : IsSome reader.ended → reader.drained ≡ true

-- the order words of the start are the orders of the page
abbrev pub SaysOrders : ℕ × ℕ → Orders → Type 0
SaysOrders said orders = (said.0 ≡ number_of orders.left) × (said.1 ≡ number_of orders.right)

-- the laws of lives, while both ends are honest
pub record LifeLawful (core : Core) : Type 0 where
  -- the words agree with the states, and a server is never fresh
  pub server_words : WordsTell core Server
  pub client_words : WordsTell core Client
  pub server_opened : core.server.state ≢ Fresh
  -- the order words stay as they were at the start
  pub left_order : word_at core.orders core.words LeftOrder ≡ core.said.0
  pub right_order : word_at core.orders core.words RightOrder ≡ core.said.1
  -- an end has seen its peer shut only if it is, and not both have seen the other shut
  pub server_sight : SightLawful core.start core.server core.client
  pub client_sight : SightLawful core.start core.client core.server
  pub not_both_saw : ¬ ((core.server.saw ≡ true) × (core.client.saw ≡ true))
  -- the end of each stream
  pub left : StreamLawful core.client core.server
  pub right : StreamLawful core.server core.client
  -- a connect finds the order words of the start, so none is misled if these are the page's orders
  pub server_orders : OrdersGive core.said core.server.trail
  pub client_orders : OrdersGive core.said core.client.trail
  pub none_misled : SaysOrders core.said core.orders → (core.server.misled ≡ false) × (core.client.misled ≡ false)
