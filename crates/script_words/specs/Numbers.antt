-- The decimal numbers of a script.
use Rattle.std.specs.Prelude.{ℕ, ◌==◌, ◌&&◌, ◌||◌, not, nat_lt, nat_le, Bool, if◌then◌else◌, List, length, slice_index, Option, None, Some}
use Rattle.std.specs.Str.{all_ascii_digits}
use Rattle.std.specs.Str.Parse.{digits_value}

-- decimal digits without a leading zero (48), or `0`
abbrev pub is_number : List ℕ → Bool
is_number word =
    all_ascii_digits word && nat_lt 0 (length word) && (length word == 1 || not (slice_index word 0 == 48))

-- the number that a word is, up to the most that is allowed
abbrev pub number_of : ℕ → List ℕ → Option ℕ
number_of most word =
    if is_number word && nat_le (digits_value 10 word) most then Some (digits_value 10 word) else None
