-- The lines of a text that aren't skipped, and how many lines a text may have.
-- Source: this project's own.
use Rattle.std.specs.Prelude.{ℕ, ◌+◌, ◌==◌, nat_lt, Bool, true, List, [], ◌∷◌, if◌then◌else◌}

-- lines, each with its number
pub data Lines : Type 0 where
  -- no line is left; one more would have this number
  stops : ℕ → Lines
  -- the line of this number is one too many
  refused : ℕ → Lines
  -- a line, and those after it
  line : ℕ → List ℕ → Lines → Lines

-- a line that is skipped: it has no byte, or begins with `#` (35)
abbrev pub is_passed_over : List ℕ → Bool
is_passed_over [] = true
is_passed_over (byte ∷ rest) = byte == 35

-- the lines from this number on that aren't skipped, up to the 65,536th
unfoldable pub kept_lines : ℕ → List (List ℕ) → Lines
kept_lines number [] = stops number
kept_lines number (text ∷ more) =
    if nat_lt 65536 number then refused number
    else (if is_passed_over text then kept_lines (number + 1) more
    else line number text (kept_lines (number + 1) more))
