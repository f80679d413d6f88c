-- The choice of ring orders from two wanted sizes, and the check of two order fields: libxenvchan's init.c.
use Rattle.std.specs.Prelude.{◌≡◌, ℕ, ◌^◌, ◌<◌, ◌≤◌, ◌⊎◌, ◌&&◌, nat_le, if◌then◌else◌}
use Rattle.ring_words.specs.declared.order.Order.{Order}
use Rattle.ring_words.specs.declared.order.Orders.{Orders}
use Rattle.ring_words.specs.Rings.{number_of}

-- the bytes of the largest ring, of order 20: MAX_RING_SHIFT of init.c
abbrev pub largest_size : ℕ
largest_size = 1048576

-- the least order from 12 on whose ring holds this many bytes: min_order of init.c
pub record IsLeastOrder (bytes number : ℕ) : Type 0 where
  pub from_twelve : 12 ≤ number
  pub holds : bytes ≤ 2 ^ number
  pub least : (other : ℕ) → 12 ≤ other → bytes ≤ 2 ^ other → number ≤ other

-- an entry of the table: exactly this order, or the least one from 12 on whose ring holds this many bytes
pub data Entry : Type 0 where
  exactly : ℕ → Entry
  holding : ℕ → Entry

-- init.c's table from the sizes of the left and the right ring to their orders; the first line that fits
abbrev pub table : ℕ → ℕ → Entry × Entry
table left right =
    if nat_le left 1024 && nat_le right 2048 then (exactly 10, exactly 11) else
    (if nat_le left 2048 && nat_le right 1024 then (exactly 11, exactly 10) else
    (if nat_le left 2048 then (exactly 11, holding right) else
    (if nat_le right 2048 then (holding left, exactly 11) else (holding left, holding right))))

-- the order is the one that the entry gives
abbrev pub Meets : Entry → Order → Type 0
Meets (exactly number) order = number_of order ≡ number
Meets (holding bytes) order = IsLeastOrder bytes (number_of order)

-- both orders are those of the table
abbrev pub AreChosen : ℕ → ℕ → Orders → Type 0
AreChosen left right orders = Meets (table left right).0 orders.left × Meets (table left right).1 orders.right

-- the size that is refused if one is above the largest: the left one if it is above
abbrev pub refused_size : ℕ → ℕ → ℕ
refused_size left right = if nat_le left largest_size then right else left

-- what the check of two order fields refuses: an order below 10 or above 20, or the same one below 12 twice
abbrev pub AreBadOrders : ℕ → ℕ → Type 0
AreBadOrders left right = (left < 10) ⊎ (20 < left) ⊎ (right < 10) ⊎ (20 < right) ⊎ ((left ≡ right) × (left < 12))
