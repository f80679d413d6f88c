-- A stream of messages, read one after another, over any grammar of one message.
use Rattle.list_laws.specs.Lists.{IsPrefixOf}
use Rattle.std.specs.Prelude.{◌≡◌, ℕ, ◌+◌, ◌-◌, ◌<◌, ◌≤◌, suc, zero, List, [], ◌∷◌, ◌++◌, length, take, map}
use Rattle.std.specs.List.{flat_map}

-- what stands at the front of some bytes: a whole message of that many bytes, a fault, or less than a message
pub data Front (M F : Type 0) : Type 0 where
  Whole : M → ℕ → Front M F
  Bad : F → Front M F
  Short : Front M F

-- how a stream ends: with that many bytes that aren't a whole message, or with a fault at an offset
pub data Ending (F : Type 0) : Type 0 where
  Rest : ℕ → Ending F
  FaultAt : ℕ → F → Ending F

-- a message with the offset of its first byte
pub record Placed (M : Type 0) : Type 0 where
  pub at : ℕ
  pub message : M

-- what a stream holds: its messages in order, and how it ends
pub record Reading (M F : Type 0) : Type 0 where
  pub placed : List (Placed M)
  pub ending : Ending F

-- a reading that begins with what stands at the front, at an offset, of that many bytes
abbrev pub with_front : {M F : Type 0} → Front M F → ℕ → ℕ → (ℕ → Reading M F) → Reading M F
with_front (Whole m n) at left rest = record { placed = record { at = at; message = m } ∷ (rest (n - 1)).placed; ending = (rest (n - 1)).ending }
with_front (Bad f) at left rest = record { placed = []; ending = FaultAt at f }
with_front Short at left rest = record { placed = []; ending = Rest left }

-- the bytes from offset `at` on, of which the first `skip` belong to the message before
abbrev pub read_on : {M F : Type 0} → (List ℕ → Front M F) → List ℕ → ℕ → ℕ → Reading M F
read_on first [] at skip = record { placed = []; ending = Rest 0 }
read_on first (b ∷ bs) at (suc skip) = read_on first bs (at + 1) skip
read_on first (b ∷ bs) at zero = with_front (first (b ∷ bs)) at (suc (length bs)) (λ k. read_on first bs (at + 1) k)

-- what a whole stream holds
abbrev pub reading_by : {M F : Type 0} → (List ℕ → Front M F) → List ℕ → Reading M F
reading_by first bytes = read_on first bytes 0 0

-- the messages of a reading
abbrev pub messages : {M F : Type 0} → Reading M F → List M
messages r = map (λ p. p.message) r.placed

-- messages, and then a reading
abbrev pub then_reading : {M F : Type 0} → List (Placed M) → Reading M F → Reading M F
then_reading placed rest = record { placed = placed ++ rest.placed; ending = rest.ending }

-- what stands at the front, a message or a fault, stays the same if more bytes come
pub record IsPrefixCode {M F : Type 0} (first : List ℕ → Front M F) : Type 0 where
  pub sized : (bytes : List ℕ) (m : M) (n : ℕ) → first bytes ≡ Whole m n → (0 < n) × (n ≤ length bytes)
  pub whole_stays : (a b : List ℕ) (m : M) (n : ℕ) → first a ≡ Whole m n → first (a ++ b) ≡ Whole m n
  pub bad_stays : (a b : List ℕ) (f : F) → first a ≡ Bad f → first (a ++ b) ≡ Bad f

-- what is written of a good message is read again, whatever follows it
abbrev pub IsReadAgain : {M F : Type 0} → (List ℕ → Front M F) → (M → List ℕ) → (M → Type 0) → Type 0
IsReadAgain {M} first written Good = (m : M) (more : List ℕ) → Good m → first (written m ++ more) ≡ Whole m (length (written m))

-- a beginning of written messages: the first few whole, and less than a whole one
pub record Begins {M F : Type 0} (first : List ℕ → Front M F) (written : M → List ℕ) (ms : List M) (bytes : List ℕ) (at : ℕ) : Type 0 where
  pub count : ℕ
  pub over : List ℕ
  pub within : count ≤ length ms
  pub is : bytes ≡ flat_map written (take count ms) ++ over
  pub read : messages (read_on first bytes at 0) ≡ take count ms
  pub ending : (read_on first bytes at 0).ending ≡ Rest (length over)
  pub all : count ≡ length ms → over ≡ []

-- what more bytes can change of a reading: a fault stays, and so does each message before the rest
abbrev pub ExtendsFrom : {M F : Type 0} → Ending F → Reading M F → Reading M F → Type 0
ExtendsFrom (Rest left) old new = IsPrefixOf old.placed new.placed
ExtendsFrom (FaultAt at f) old new = new ≡ old

-- the reading of a stream to which more bytes came
abbrev pub Extends : {M F : Type 0} → Reading M F → Reading M F → Type 0
Extends old new = ExtendsFrom old.ending old new
