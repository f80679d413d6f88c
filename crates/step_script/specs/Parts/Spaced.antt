-- Words after one another.
use Rattle.std.specs.Prelude.{ℕ, List, ◌++◌}
use Rattle.script_words.specs.Text.{spaced}

-- a text with these words after it
abbrev pub with_words : List ℕ → List (List ℕ) → List ℕ
with_words text words = text ++ spaced words
