-- The answers of a reader of a part of an act, against what is due.
use Rattle.std.specs.Prelude.{◌≡◌, ℕ, List, [], ◌∷◌, Option, Some, None, Result, Ok, Err}
use Rattle.script_words.specs.declared.byte_string.ByteError.{ByteError}
use Rattle.script_words.specs.declared.byte_string.ByteError.TheVariants as byte
use Rattle.scenario_file.specs.declared.act_words.ActError.{ActError}
use Rattle.scenario_file.specs.declared.act_words.ActError.TheVariants as error

-- a refusal comes only if nothing is due; memory may always run out
abbrev pub IsActRefusal : {Y : Type 0} → ActError → Option Y → Type 0
IsActRefusal error.Bad due = due ≡ None
IsActRefusal error.Memory due = Unit {0}

-- a reader answers what is due, as contracts see it; memory may always run out
abbrev pub Spells : {X Y : Type 0} → (X → Y) → Result X ActError → Option Y → Type 0
Spells seen (Ok x) due = due ≡ Some (seen x)
Spells seen (Err e) due = IsActRefusal e due

-- why a word with such a byte string wasn't read as part of an act
abbrev pub act_error_of : ByteError → ActError
act_error_of byte.BadHex = error.Bad
act_error_of byte.Memory = error.Memory

-- the words aren't three
abbrev pub AreNotThree : List (List ℕ) → Type 0
AreNotThree (first ∷ second ∷ third ∷ []) = ⊥
AreNotThree _ = Unit {0}
