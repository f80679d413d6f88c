-- The words of a line that aren't read yet.
use Rattle.std.specs.Prelude.{◌≡◌, ℕ, false, List, [], ◌∷◌, Option, None, Some, bytes_eq}
use Rattle.script_words.specs.Words.{words_of}
use Rattle.script_words.specs.declared.words.WordsOfLine.{WordsOfLine}
use denote.Ref.{Bor}

-- the words of what is left of the line, if anything is left
abbrev pub left_of : Option (Bor (List ℕ)) → List (List ℕ)
left_of None = []
left_of (Some rest) = words_of rest.now

-- the words that aren't read yet
abbrev pub words_left : WordsOfLine → List (List ℕ)
words_left words = left_of words.rest

-- the first of these words isn't this one, or there is none
abbrev pub IsNotFirst : List ℕ → List (List ℕ) → Type 0
IsNotFirst word [] = Unit {0}
IsNotFirst word (first ∷ more) = bytes_eq first word ≡ false
