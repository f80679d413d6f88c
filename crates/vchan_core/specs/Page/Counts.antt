-- Counts that a running program keeps of an endless past.
use Rattle.std.specs.Prelude.{ℕ, min}

-- a count that stays at its greatest number once it reaches it
abbrev pub capped : ℕ → ℕ
capped count = min count 18446744073709551615
