-- The rule of a page's table: the words and the views make up a core state that has the invariant of a page.
use Rattle.std.specs.Prelude.{◌≡◌, ℕ, List, [], ◌∷◌, slice_index}
use lib.Dec.{lit≤}
use Rattle.atomic_table.specs.Table.{State, Me, Step}
use Rattle.ring_words.specs.Rings.{number_of}
use Rattle.ring_words.specs.declared.order.Order.{Order}
use Rattle.ring_words.specs.declared.order.Orders.{Orders}
use Rattle.ring_words.specs.declared.page.Role.TheVariants.{Server, Client}
use Rattle.vchan_protocol.specs.declared.op.Op.{Op}
use Rattle.vchan_protocol.specs.declared.op.Op.TheVariants.{Load, LoadByte, Store, StoreByte, Or, And, Swap, Nothing}
use Rattle.vchan_protocol.specs.declared.call.EndState.TheVariants.{Open, Fresh}
use Rattle.vchan_protocol.specs.declared.side.Side.{Side}
use Rattle.vchan_protocol.specs.Table.Ends.{cons_word, written_ring}
use Rattle.vchan_protocol.specs.Table.Apply.{word_of, takes}
use Rattle.vchan_protocol.specs.History.Core.{Core, new_side, side_after, op_next}
use Rattle.vchan_protocol.specs.OneEnd.OneEnd.{Setup, between}
use Rattle.vchan_protocol.specs.Hostile.Turned.{turns, strays}
use Rattle.vchan_protocol.specs.Always.Invariant.{MayCome}
use Rattle.vchan_rule.specs.declared.rule.View.{View}
use Rattle.vchan_rule.specs.declared.rule.View.TheVariants.{Whole, One, Both, Spent}
use Rattle.vchan_rule.specs.declared.rule.Opening.{Opening}

-- the order words of the start hold the page's orders
abbrev pub said_of : Orders → ℕ × ℕ
said_of orders = (number_of orders.left, number_of orders.right)

abbrev pub new_server : Orders → ℕ → Side
new_server orders start = new_side Server orders start Open

abbrev pub new_client : Orders → ℕ → Side
new_client orders start = new_side Client orders start Fresh

-- what stays of a page from its opening on
abbrev pub setup_at : Opening → Setup
setup_at key = record { start = key.start; said = said_of key.orders; orders = key.orders }

-- the core state that these words and these two ends make up
abbrev pub core : Opening → List ℕ → Side → Side → Core
core key words server client = between (setup_at key) words Server server client

-- The words and the views show a core state that may come: the opening and the steps of the protocol lead to it, and no other store does. There is one seat
-- at the opening, then one for each end, and when the page is done with, one that knows both.
pub data Shown : Opening → List ℕ → List View → Type 0 where
  whole : (key : Opening) (words : List ℕ) (views : List View) → views ≡ Whole key.orders key.start ∷ [] → MayCome (core key words (new_server key.orders key.start) (new_client key.orders key.start)) → Shown key words views
  parted : (key : Opening) (words : List ℕ) (views : List View) (server client : Side) → views ≡ One server ∷ One client ∷ [] → MayCome (core key words server client) → Shown key words views
  done : (key : Opening) (words : List ℕ) (views : List View) (server client : Side) → views ≡ Both server client ∷ Spent ∷ [] → MayCome (core key words server client) → Shown key words views

pub record Ruled (key : Opening) (s : State (Unit {0}) View) : Type 0 where
  pub shown : Shown key s.words s.views

-- ---- what each step tells its seat

-- the operand of an event, if the call has this payload: the value of a store or a swap, the byte of the payload, the bits of an or or an and, and 0 for a load
abbrev pub operand : List ℕ → Op → ℕ
operand payload (Load word) = 0
operand payload (LoadByte word at) = 0
operand payload (Store word value) = value
operand payload (StoreByte word at) = slice_index payload at
operand payload (Or word bits) = bits
operand payload (And word bits) = bits
operand payload (Swap word value) = value
operand payload Nothing = 0

-- the step is on the word of this event, with its operand
pub record IsStepOf (orders : Orders) (payload : List ℕ) (op : Op) (st : Step (Unit {0})) : Type 0 where
  pub word : st.word ≡ word_of orders op
  pub first : st.first ≡ operand payload op

-- the next event of an end, which took what it found
abbrev pub makes : Side → Step (Unit {0}) → Me (Unit {0}) View → ℕ → Me (Unit {0}) View → Type 0
makes s st m n m' = IsStepOf s.orders s.payload (op_next s) st × (m' ≡ (One (side_after s (takes (op_next s) n)), []))

-- the event at which an end is turned: a load of the consumer index of the ring that it writes
abbrev pub last_look : Side → Op
last_look s = Load (cons_word (written_ring s.role))

-- the end is turned, when its reader has got some number of bytes
abbrev pub gives_up : Side → Step (Unit {0}) → Me (Unit {0}) View → ℕ → Me (Unit {0}) View → Type 0
gives_up s st m n m' = IsStepOf s.orders s.payload (last_look s) st × ((consumed : ℕ) × (m' ≡ (One (turns s consumed), [])))

-- an event of a hostile user, which stores any number and no payload
abbrev pub wanders : Side → Op → Step (Unit {0}) → Me (Unit {0}) View → ℕ → Me (Unit {0}) View → Type 0
wanders s op st m n m' = IsStepOf s.orders [] op st × (m' ≡ (One (strays s op (takes op n)), []))

-- an end that is shown only if there is no other
abbrev pub least : Order
least = record { number = 12; in_range = (lit≤ tt, lit≤ tt) }

abbrev pub nobody : Side
nobody = new_server (record { left = least; right = least; distinct = λ _. lit≤ tt }) 0

abbrev pub nothing_told : Opening
nothing_told = record { orders = record { left = least; right = least; distinct = λ _. lit≤ tt }; start = 0 }

abbrev pub server_half : View → View
server_half (Whole orders start) = One (new_server orders start)
server_half _ = Spent

abbrev pub client_half : View → View
client_half (Whole orders start) = One (new_client orders start)
client_half _ = Spent

abbrev pub joined : View → View → View
joined (One a) (One b) = Both a b
joined _ _ = Spent
