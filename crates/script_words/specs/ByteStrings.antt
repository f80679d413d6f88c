-- The byte strings of scripts: which words are one, and of which bytes.
-- Source: this project's own.
use Rattle.std.specs.Prelude.{◌≡◌, ◌++◌, ℕ, ◌+◌, ◌*◌, ◌==◌, ◌&&◌, nat_lt, Bool, List, [], ◌∷◌, length, drop, slice_index, replicate, Option, Some, None, Result, Ok, Err, IsOk, if◌then◌else◌, codes, bytes_eq}
use Rattle.std.specs.Option.{option_and_then}
use Rattle.hex.specs.Hex.{hex_digit_value}
use Rattle.script_words.specs.Numbers.{number_of}
use Rattle.script_words.specs.declared.byte_string.PushError.{PushError}
use Rattle.script_words.specs.declared.byte_string.PushError.TheVariants as push

-- the second step, if the first gave a value
infixl 10 ◌>>=◌
abbrev pub ◌>>=◌ : {A B : Type 0} → Option A → (A → Option B) → Option B
o >>= f = option_and_then f o

-- the byte of two hexadecimal digits of either case
abbrev pub byte_of : ℕ → ℕ → Option ℕ
byte_of high low = do
  h ← hex_digit_value high
  l ← hex_digit_value low
  Some (h * 16 + l)

-- the bytes of pairs of digits
unfoldable pub bytes_of_pairs : List ℕ → Option (List ℕ)
bytes_of_pairs [] = Some []
bytes_of_pairs (digit ∷ []) = None
bytes_of_pairs (high ∷ low ∷ rest) = do
  byte ← byte_of high low
  bytes ← bytes_of_pairs rest
  Some (byte ∷ bytes)

-- `HH*N`: the third byte is the star (42)
abbrev pub has_star : List ℕ → Bool
has_star word = nat_lt 2 (length word) && (slice_index word 2 == 42)

-- the byte HH, N times: at least once, and at most 2,097,152 times
abbrev pub repeated : ℕ → ℕ → List ℕ → Option (List ℕ)
repeated high low count = do
  byte ← byte_of high low
  n ← number_of 2097152 count
  if n == 0 then None else Some (replicate n byte)

-- the bytes of a word: `-` has none; else it is `HH*N`, or at least one pair of digits
abbrev pub byte_string : List ℕ → Option (List ℕ)
byte_string word =
    if bytes_eq word (codes "-") then Some []
    else if has_star word then repeated (slice_index word 0) (slice_index word 1) (drop 3 word)
    else if length word == 0 then None
    else bytes_of_pairs word

-- what is wrong with a word that should spell bytes, at most this many
pub data ByteFault : Type 0 where
  -- it isn't a byte string
  BadHex : ByteFault
  -- it is a byte string, but of more bytes
  TooManyBytes : ByteFault

-- the bytes of a word, if it has some and they are at most this many; or what is wrong with it
abbrev pub at_most : ℕ → Option (List ℕ) → Result (List ℕ) ByteFault
at_most most None = Err BadHex
at_most most (Some bytes) = if nat_lt most (length bytes) then Err TooManyBytes else Ok bytes

-- a list that gains these bytes
abbrev pub Gains : Result (List ℕ) ByteFault → List ℕ → List ℕ → Type 0
Gains (Err fault) old new = ⊥
Gains (Ok bytes) old new = new ≡ old ++ bytes

-- the refusal of a word is the one that is due; memory runs out only if none is
abbrev pub IsPushRefusal : PushError → Result (List ℕ) ByteFault → Type 0
IsPushRefusal push.BadHex due = due ≡ Err BadHex
IsPushRefusal push.TooManyBytes due = due ≡ Err TooManyBytes
IsPushRefusal push.Memory due = IsOk due
