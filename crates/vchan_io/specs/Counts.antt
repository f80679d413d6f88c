-- Counts of faults and of calls. Each is a `u64` that stays at 18446744073709551615 once it has got there.
use Rattle.std.specs.Prelude.{ℕ, ◌+◌, ◌-◌, ◌^◌, ◌<◌, ◌≤◌, min, List, Contains}

-- a count with one more
abbrev pub one_more : ℕ → ℕ
one_more count = min (count + 1) (2 ^ 64 - 1)

-- a count of faults rose, or stands at 18446744073709551615
abbrev pub Rose : ℕ → ℕ → Type 0
Rose old new = one_more old ≤ new

-- after this many calls the next one is to fail: its number, counted from 1, is in the list. The last number
-- is 18446744073709551614, and a later call doesn't fail by its number
abbrev pub IsNextToFail : List ℕ → ℕ → Type 0
IsNextToFail fails calls = (one_more calls < 2 ^ 64 - 1) × Contains fails (one_more calls)
