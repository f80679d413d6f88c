-- The bytes of a script as lines, and a line as words.
-- Source: this project's own.
use Rattle.std.specs.Prelude.{ℕ, ◌==◌, if◌then◌else◌, List, [], ◌∷◌, length, Option, None, Some}
use Rattle.std.specs.List.{slice_split}

-- the pieces of bytes between the separators: one more than there are separators
abbrev pub pieces : ℕ → List ℕ → List (List ℕ)
pieces separator bytes = slice_split (λ b. b == separator) bytes

-- nothing stands after the last line feed
abbrev pub without_empty_end : List (List ℕ) → List (List ℕ)
without_empty_end [] = []
without_empty_end (line ∷ []) = if length line == 0 then [] else line ∷ []
without_empty_end (line ∷ next ∷ more) = line ∷ without_empty_end (next ∷ more)

-- the lines, each ended by LF (10), the last one perhaps by the end of the bytes
abbrev pub lines_of : List ℕ → List (List ℕ)
lines_of bytes = without_empty_end (pieces 10 bytes)

-- the words of a line, with one space (32) between each two
abbrev pub words_of : List ℕ → List (List ℕ)
words_of line = pieces 32 line

-- the one word, if there is just one
abbrev pub only : List (List ℕ) → Option (List ℕ)
only [] = None
only (word ∷ []) = Some word
only (word ∷ next ∷ more) = None
