-- Words one after another, as the bytes of a ring lie if they don't wrap.
use Rattle.std.specs.Prelude.{ℕ, ◌+◌, ◌%◌, suc, zero, List, [], ◌∷◌, slice_index, slice_set}

-- the list overwritten by these values one after another, from this place on
abbrev pub overwritten : List ℕ → ℕ → List ℕ → List ℕ
overwritten list first [] = list
overwritten list first (value ∷ values) = overwritten (slice_set list first value) (first + 1) values

-- this many words from this place on, each by its low 8 bits
abbrev pub low_bytes : List ℕ → ℕ → ℕ → List ℕ
low_bytes list first zero = []
low_bytes list first (suc count) = slice_index list first % 256 ∷ low_bytes list (first + 1) count
