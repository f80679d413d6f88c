-- The words of a printed line.
-- Source: this project's own.
use Rattle.std.specs.Prelude.{ℕ, List, [], ◌∷◌, ◌++◌, ◌+◌, ◌/◌, nat_lt, if◌then◌else◌, codes}
use Rattle.hex.specs.Hex.{encode_lower}

-- words, with a space (32) before each
abbrev pub spaced : List (List ℕ) → List ℕ
spaced [] = []
spaced (word ∷ words) = 32 ∷ (word ++ spaced words)

-- bytes in lower case hexadecimal, or `-` if there are none
abbrev pub shown_bytes : List ℕ → List ℕ
shown_bytes [] = codes "-"
shown_bytes (b ∷ bytes) = encode_lower (b ∷ bytes)

-- how much more room than it needs a text gets when it grows: as much again below 16 MiB, and a sixteenth from there on
abbrev pub spare_of : ℕ → ℕ
spare_of needed = if nat_lt needed 16777216 then needed else needed / 16

-- the room of a text that grew since it needed so much
abbrev pub room_of : ℕ → ℕ
room_of needed = needed + spare_of needed
