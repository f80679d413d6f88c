-- What a hostile user of an end does to the ring that this end writes, by loads and stores of its own.
-- Source: libxenvchan's io.c for where a byte of the ring lies; that it is put by plain stores is this project's own.
use Rattle.std.specs.Prelude.{ℕ, ◌+◌, List, [], ◌∷◌, ◌++◌}
use Rattle.ring_words.specs.Rings.{place}
use Rattle.ring_words.specs.Page.{order_of}
use Rattle.ring_words.specs.declared.order.Orders.{Orders}
use Rattle.ring_words.specs.declared.page.Role.{Role}
use Rattle.ring_words.specs.declared.page.WordName.TheVariants.{RingByte}
use Rattle.vchan_protocol.specs.declared.op.Op.TheVariants.{Load, Store}
use Rattle.vchan_protocol.specs.declared.op.PastEvent.{PastEvent}
use Rattle.vchan_protocol.specs.declared.side.Side.{Side}
use Rattle.vchan_protocol.specs.Hostile.Turned.{strays}
use Rattle.vchan_protocol.specs.Table.Plan.{past}
use Rattle.vchan_protocol.specs.Table.Ends.{written_ring, prod_word, cons_word}

-- a turned end after these events of its hostile user
abbrev pub strays_along : Side → List PastEvent → Side
strays_along s [] = s
strays_along s (event ∷ events) = strays_along (strays s event.op event.taken) events

-- the stores of these bytes into the ring that the end writes, at the places from this index on
abbrev pub byte_stores : Role → Orders → ℕ → List ℕ → List PastEvent
byte_stores role orders index [] = []
byte_stores role orders index (byte ∷ bytes) =
    past (Store (RingByte (written_ring role) (place index (order_of orders (written_ring role)))) byte) 0 ∷ byte_stores role orders (index + 1) bytes

-- a load of the consumer index, which took this value; the stores of the bytes; and the store of this producer index
abbrev pub say_events : Role → Orders → ℕ → ℕ → List ℕ → ℕ → List PastEvent
say_events role orders own taken bytes index =
    past (Load (cons_word (written_ring role))) taken ∷ byte_stores role orders own bytes ++ past (Store (prod_word (written_ring role)) index) 0 ∷ []
