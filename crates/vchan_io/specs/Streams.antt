-- What reads and writes do to the bytes that a source has left and that a sink holds, if contracts
-- see them.
use Rattle.std.specs.Prelude.{◌≡◌, ℕ, ◌<◌, List, Option, length, take}
use Rattle.std.specs.Io.KnownBytes.{prepend_known, append_known}

-- these bytes were taken from the front of what was left
abbrev pub Takes : Option (List ℕ) → Option (List ℕ) → List ℕ → Type 0
Takes old new taken = old ≡ prepend_known taken new

-- these bytes were appended to what was held
abbrev pub Appends : Option (List ℕ) → Option (List ℕ) → List ℕ → Type 0
Appends old new appended = new ≡ append_known old appended

-- some of these bytes were appended, from the first on, and not all
abbrev pub AppendsProperPrefix : Option (List ℕ) → Option (List ℕ) → List ℕ → Type 0
AppendsProperPrefix old new bytes = (count : ℕ) × (count < length bytes) × Appends old new (take count bytes)
