use Rattle.std.proofs.Common.{◌≡◌, ◌≤◌, ◌-◌, length, take}
use Rattle.hostile_seat.specs.Hostile.{strays_along, byte_stores}
use Rattle.hostile_seat.proofs.store_bytes.Given as goal

abbrev pub invariant-bytes : goal.invariant-bytes
invariant-bytes l =
    (l.at ≤ length l.bytes) × (l.end.page ≡ l.initial.end.page)
    × (l.end.side ≡ strays_along l.initial.end.side (byte_stores l.initial.end.side.role l.initial.end.side.orders l.index (take l.at l.bytes)))

abbrev pub decreases-bytes : goal.decreases-bytes
decreases-bytes l = length l.bytes - l.at
