-- The events that an end makes next: those whose values are known, up to one whose value is awaited.
use Rattle.std.specs.Prelude.{◌≡◌, ◌≢◌, ◌<◌, ◌≤◌, ◌+◌, ◌-◌, ℕ, zero, suc, Bool, true, false, nat_lt, bit_and, ◌==◌, ◌&&◌, not, is_some, if◌then◌else◌, Option, Some, None, List, [], ◌∷◌, ◌++◌}
use Rattle.ring_words.specs.declared.order.Order.{Order}
use Rattle.ring_words.specs.declared.page.WordName.{WordName}
use Rattle.ring_words.specs.declared.page.WordName.TheVariants.{RingByte}
use Rattle.ring_words.specs.Rings.{place, size}
use Rattle.vchan_protocol.specs.declared.op.Op.{Op}
use Rattle.vchan_protocol.specs.declared.op.Op.TheVariants.{Load, LoadByte, Store, StoreByte, Or, And, Swap, Nothing}
use Rattle.vchan_protocol.specs.declared.op.PastEvent.{PastEvent}
use Rattle.vchan_protocol.specs.declared.call.Answer.{Answer}
use Rattle.vchan_protocol.specs.Table.Plan.{Plan, answers, Leads, next_op, after, past}
use Rattle.vchan_protocol.specs.Table.Ends.{Standing, standing_after, peer_pending, mask, low8, write_order, read_order}
use Rattle.vchan_core.specs.declared.machine.Machine.{Machine}
use Rattle.vchan_core.specs.declared.machine.ahead.Span.{Span}
use Rattle.vchan_core.specs.OneMachine.Phases.{standing, rest, IsIdle, payload_needed, buffer_needed}
use Rattle.vchan_core.specs.OneMachine.Ahead.{look_behind, IsOnByte}
use Rattle.vchan_c.specs.declared.stretch.Bytes.{Bytes}
use Rattle.vchan_c.specs.declared.stretch.Moves.{Moves}
use Rattle.vchan_c.specs.declared.stretch.Moves.TheVariants.{Nothing as NoBytes, Puts, Takes}
use Rattle.vchan_c.specs.declared.stretch.Stored.{Stored}
use Rattle.vchan_c.specs.declared.stretch.Last.{Last}
use Rattle.vchan_c.specs.declared.stretch.Last.TheVariants.{Answer as Answered, Event, Notify, Further}
use Rattle.vchan_c.specs.declared.stretch.Stretch.{Stretch}

-- The event's value is awaited: that of a byte or a store tells nothing, and what follows an and is known for each.
abbrev pub awaits : Op → Bool
awaits (Load word) = true
awaits (Or word bits) = true
awaits (And word bits) = false
awaits (Swap word value) = true
awaits (LoadByte word at) = false
awaits (Store word value) = false
awaits (StoreByte word at) = false
awaits Nothing = false

-- ---- bytes

-- where byte number k of some bytes lies in its ring
abbrev pub byte_place : Bytes → ℕ → ℕ
byte_place bytes k = if nat_lt k bytes.first then bytes.place + k else k - bytes.first

-- the events that store n of the bytes, and those that load them, from number k on
abbrev pub puts_told : Bytes → ℕ → ℕ → List PastEvent
puts_told bytes k zero = []
puts_told bytes k (suc n) = past (StoreByte (RingByte bytes.ring (byte_place bytes k)) (bytes.at + k)) 0 ∷ puts_told bytes (k + 1) n

abbrev pub takes_told : (ℕ → ℕ) → Bytes → ℕ → ℕ → List PastEvent
takes_told values bytes k zero = []
takes_told values bytes k (suc n) = past (LoadByte (RingByte bytes.ring (byte_place bytes k)) (bytes.at + k)) (values k) ∷ takes_told values bytes (k + 1) n

-- the bytes lie within a ring of this order, in two parts at most, and within this many of the caller's
pub record IsWithin (order : Order) (most : ℕ) (bytes : Bytes) : Type 0 where
  pub some : 0 < bytes.first
  pub ring : bytes.place + bytes.first ≤ size order
  pub front : bytes.second ≤ bytes.place
  pub wraps : 0 < bytes.second → bytes.place + bytes.first ≡ size order
  pub caller : bytes.at + (bytes.first + bytes.second) ≤ most

-- the bytes are the next ones of a span
pub record AreBytes (span : Span) (bytes : Bytes) : Type 0 where
  pub ring : bytes.ring ≡ span.ring
  pub at : bytes.at ≡ span.at
  pub place : bytes.place ≡ place (span.index + span.at) span.order
  pub within : IsWithin span.order span.count bytes

abbrev pub moved : (ℕ → ℕ) → Moves → List PastEvent
moved values NoBytes = []
moved values (Puts bytes) = puts_told bytes 0 (bytes.first + bytes.second)
moved values (Takes bytes) = takes_told values bytes 0 (bytes.first + bytes.second)

-- the bytes lie within the ring of an end with this standing, and within this many of its payload or its buffer
abbrev pub MovesWithin : Standing → ℕ → ℕ → Moves → Type 0
MovesWithin e payload buffer NoBytes = Unit {0}
MovesWithin e payload buffer (Puts bytes) = IsWithin (write_order e) payload bytes
MovesWithin e payload buffer (Takes bytes) = IsWithin (read_order e) buffer bytes

-- an end went past these bytes, and past no other event
pub record HasPassed (before : Machine) (moves : Moves) (now : Machine) : Type 0 where
  pub leads : (values : ℕ → ℕ) → Leads (rest before) (moved values moves) (rest now)
  pub stands : standing now ≡ standing before
  pub payload_left : payload_needed now ≤ payload_needed before
  pub buffer_left : buffer_needed now ≤ buffer_needed before
  pub within : MovesWithin (standing before) (payload_needed before) (buffer_needed before) moves
  pub none : moves ≡ NoBytes → ¬ IsOnByte (next_op (rest before))

-- ---- a store, and a signal

abbrev pub stored : Option Stored → List PastEvent
stored None = []
stored (Some s) = past (Store s.word s.value) 0 ∷ []

abbrev pub standing_stored : Option Stored → Standing → Standing
standing_stored None e = e
standing_stored (Some s) e = standing_after e (Store s.word s.value)

abbrev pub signalled : Standing → Bool → List PastEvent
signalled e false = []
signalled e true = past (Store (peer_pending e.role) 1) 0 ∷ []

-- the event is a store for which a step has a place of its own: none, or the signal of this word
abbrev pub IsStoreNone : WordName → Op → Type 0
IsStoreNone signal (Store word value) = (word ≡ signal) × (value ≡ 1)
IsStoreNone signal _ = Unit {0}

-- ---- what comes after

-- The notify with which a call ends, if its word holds this value: a bit of it is cleared, and if that was set the peer
-- is signalled.
abbrev pub notified : Standing → Last → ℕ → List PastEvent
notified e (Notify last) value = past (And last.word (18446744073709551615 - mask last.bit)) value ∷ (if bit_and value (mask last.bit) == 0 then [] else past (Store (peer_pending e.role) 1) 0 ∷ [])
notified e (Answered answer) value = []
notified e (Event op look) value = []
notified e Further value = []

-- what is left of the call
abbrev pub left : Last → Machine → Plan
left (Answered answer) m = answers answer
left (Notify last) m = answers last.answer
left (Event op look) m = rest m
left Further m = rest m

-- the event is neither awaited nor an and, and there is one
abbrev pub IsPassed : Op → Type 0
IsPassed (LoadByte word at) = Unit {0}
IsPassed (Store word value) = Unit {0}
IsPassed (StoreByte word at) = Unit {0}
IsPassed _ = ⊥

-- an event that is awaited is the end's next one, with the look after it
pub record IsAwaited (op : Op) (look : Option WordName) (m : Machine) : Type 0 where
  pub busy : ¬ IsIdle m
  pub op_is : op ≡ next_op (rest m)
  pub awaits : awaits op ≡ true
  pub look_is : look ≡ look_behind m

abbrev pub IsLast : Last → Machine → Type 0
IsLast (Answered answer) m = IsIdle m
IsLast (Notify last) m = IsIdle m
IsLast (Event op look) m = IsAwaited op look m
IsLast Further m = ¬ IsIdle m

-- ---- a stretch of events

-- its events, if the bytes that are loaded have these values, and the word of its notify this one
abbrev pub told : (ℕ → ℕ) → ℕ → Standing → Stretch → List PastEvent
told values value e stretch = moved values stretch.moves ++ (stored stretch.store ++ (signalled e stretch.signals ++ notified e stretch.last value))

-- The stretch is what an end with this standing does next of the plan, and the machine is what it leaves. If the call
-- goes on with nothing awaited, it has an event.
pub record IsStretch (plan : Plan) (e : Standing) (stretch : Stretch) (now : Machine) : Type 0 where
  pub leads : (values : ℕ → ℕ) → (value : ℕ) → Leads plan (told values value e stretch) (left stretch.last now)
  pub stands : standing now ≡ standing_stored stretch.store e
  pub last_is : IsLast stretch.last now
  pub some : stretch.last ≡ Further → (values : ℕ → ℕ) → (value : ℕ) → told values value e stretch ≢ []

abbrev pub answered_by : Answer → Stretch
answered_by answer = record { moves = NoBytes; store = None; signals = false; last = Answered answer }

-- ---- after the event that is awaited

-- a word is loaded after the event that is awaited, which took this value
abbrev pub looks_on : Machine → ℕ → Bool
looks_on m value = is_some (look_behind m) && not (low8 value == 0)

-- what is left after it took this value, and the word that is loaded after it that one; if none is awaited, nothing changes
abbrev pub plan_behind : Machine → ℕ → ℕ → Plan
plan_behind m value look =
    if awaits (next_op (rest m)) then (if looks_on m value then after (after (rest m) value) look else after (rest m) value) else rest m
