-- The generator of numbers.
-- Source: this project's own; the step is the linear congruence 75 x + 74 modulo 65,537.
use Rattle.std.specs.Prelude.{ℕ, ◌+◌, ◌*◌, ◌%◌}

-- the number after this one
abbrev pub next_number : ℕ → ℕ
next_number x = (75 * x + 74) % 65537
