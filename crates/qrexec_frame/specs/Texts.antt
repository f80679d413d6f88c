-- Texts, and how they stand in the fields of a message.
use Rattle.std.specs.Prelude.{ℕ, ◌-◌, ◌≤◌, ◌==◌, Bool, List, [], ◌∷◌, ◌++◌, length, take, drop, replicate, Contains}
use Rattle.std.specs.List.{before_first}

-- no byte is NUL
pub record HasNoNul (text : List ℕ) : Type 0 where
  pub none : ¬ Contains text 0

-- whether a byte is NUL
abbrev pub is_nul : ℕ → Bool
is_nul b = b == 0

-- a text and NULs up to a length, as a fixed field is written
abbrev pub padded : ℕ → List ℕ → List ℕ
padded len text = text ++ replicate (len - length text) 0

-- a text and one NUL, as a line or a service is written
abbrev pub ended : List ℕ → List ℕ
ended text = text ++ 0 ∷ []

-- the text of a fixed field: its bytes before the first NUL, its last byte counting as NUL
abbrev pub field_text : ℕ → ℕ → List ℕ → List ℕ
field_text start len body = before_first is_nul (take (len - 1) (drop start body))

-- the text of a line or a service that begins at a place: its bytes before the first NUL
abbrev pub line_text : ℕ → List ℕ → List ℕ
line_text start body = before_first is_nul (drop start body)

-- a text of at most this many bytes
pub record FitsText (most : ℕ) (text : List ℕ) : Type 0 where
  pub within : length text ≤ most
  pub no_nul : HasNoNul text
