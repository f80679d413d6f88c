-- What a hostile domain sends on its control channel, turn by turn.
-- Source: this project's own, over the ring of libxenvchan's io.c.
use Rattle.std.specs.Prelude.{◌≡◌, ◌≢◌, ◌⊎◌, ℕ, ◌+◌, ◌%◌, ◌^◌, ◌<◌, ◌≤◌, min, List, [], ◌∷◌, ◌++◌, length, take, drop}
use Rattle.ring_words.specs.Rings.{room}
use Rattle.ring_words.specs.Page.{order_of}
use Rattle.ring_words.specs.declared.order.Orders.{Orders}
use Rattle.ring_words.specs.declared.page.Role.TheVariants.{Server}
use Rattle.vchan_protocol.specs.declared.op.PastEvent.{PastEvent}
use Rattle.vchan_protocol.specs.Table.Ends.{written_ring, low32}
use Rattle.hostile_seat.specs.Hostile.{say_events}

-- the orders of the page, and the producer index that the domain keeps for itself
pub record Voice : Type 0 where
  pub orders : Orders
  pub own : ℕ

-- how many of the bytes fit in one turn, by the consumer index that was loaded
abbrev pub fits : Voice → List ℕ → ℕ → ℕ
fits v bytes cons = min (min (length bytes) 1048576) (room v.own (low32 cons) (order_of v.orders (written_ring Server)))

-- the index moves on by this many bytes
abbrev pub moved : Voice → ℕ → Voice
moved v count = record v { own = (v.own + count) % 2 ^ 32 }

-- the events of one turn
abbrev pub said_once : Voice → List ℕ → ℕ → List PastEvent
said_once v bytes cons = say_events Server v.orders v.own cons (take (fits v bytes cons) bytes) (moved v (fits v bytes cons)).own

-- the events of some turns, the index after them, and the bytes that are left then
pub record Saying : Type 0 where
  pub events : List PastEvent
  pub voice : Voice
  pub left : List ℕ

-- some turns, by the consumer index that each of them loaded
abbrev pub said : Voice → List ℕ → List ℕ → Saying
said v bytes [] = record { events = []; voice = v; left = bytes }
said v bytes (cons ∷ loads) = then_said (said_once v bytes cons) (said (moved v (fits v bytes cons)) (drop (fits v bytes cons) bytes) loads)
  where
    then_said : List PastEvent → Saying → Saying
    then_said events more = record more { events = events ++ more.events }

-- these bytes are sent by these events: it goes on while bytes are left, for at most 1,024 turns
pub record IsSaying (before after : Voice) (bytes : List ℕ) (events : List PastEvent) : Type 0 where
  pub loads : List ℕ
  pub events_are : events ≡ (said before bytes loads).events
  pub voice_is : after ≡ (said before bytes loads).voice
  pub turns : length loads ≤ 1024
  pub goes_on : (k : ℕ) → k < length loads → (said before bytes (take k loads)).left ≢ []
  pub stops : ((said before bytes loads).left ≡ []) ⊎ (length loads ≡ 1024)
