-- The places that a word names, as `NAME[K]`.
-- Source: this project's own.
use Rattle.std.specs.Prelude.{ℕ, ◌-◌, List, length, take, drop, if◌then◌else◌, Option, None, Some, codes, bytes_eq}
use Rattle.std.specs.Option.{option_and_then}

-- what stands after these bytes, and before these
abbrev pub without_front : List ℕ → List ℕ → Option (List ℕ)
without_front front word =
    if bytes_eq (take (length front) word) front then Some (drop (length front) word) else None

abbrev pub without_end : List ℕ → List ℕ → Option (List ℕ)
without_end end word =
    if bytes_eq (drop (length word - length end) word) end then Some (take (length word - length end) word) else None

-- K of `NAME[K]`, whose front is `NAME[`
abbrev pub place_in : List ℕ → List ℕ → Option (List ℕ)
place_in front word = option_and_then (without_end (codes "]")) (without_front front word)
