-- The words after a verb.
-- Source: this project's own.
use Rattle.std.specs.Prelude.{ℕ, ◌==◌, nat_lt, List, [], ◌∷◌, length, if◌then◌else◌, ok_or, Result, Ok, Err}
use Rattle.list_laws.specs.Results.{◌>>=◌}
use Rattle.step_script.specs.declared.error.ScriptKind.{ScriptKind}
use Rattle.step_script.specs.declared.error.ScriptKind.TheVariants.{BadLine, BadNumber, BadHex, TooManyBytes}
use Rattle.script_words.specs.Words.{only}
use Rattle.script_words.specs.Numbers.{number_of}
use Rattle.script_words.specs.ByteStrings.{at_most, byte_string, ByteFault}
use Rattle.script_words.specs.ByteStrings as fault

-- a word with at least one byte
abbrev pub given : List ℕ → Result (List ℕ) ScriptKind
given word = if length word == 0 then Err BadLine else Ok word

-- the only word that is left
abbrev pub operand_of : List (List ℕ) → Result (List ℕ) ScriptKind
operand_of words = do
  word ← ok_or (only words) BadLine
  given word

-- this, if no word is left
abbrev pub alone : {A : Type 0} → A → List (List ℕ) → Result A ScriptKind
alone x [] = Ok x
alone x (word ∷ more) = Err BadLine

-- a number from the least to the most
abbrev pub number_between : ℕ → ℕ → List ℕ → Result ℕ ScriptKind
number_between least most word = do
  number ← ok_or (number_of most word) BadNumber
  if nat_lt number least then Err BadNumber else Ok number

-- a number as the only word that is left
abbrev pub count_of : ℕ → ℕ → List (List ℕ) → Result ℕ ScriptKind
count_of least most words = do
  word ← operand_of words
  number_between least most word

-- what is wrong with a line, by what is wrong with its byte string
abbrev pub fault_kind : ByteFault → ScriptKind
fault_kind fault.BadHex = BadHex
fault_kind fault.TooManyBytes = TooManyBytes

abbrev pub in_a_line : {A : Type 0} → Result A ByteFault → Result A ScriptKind
in_a_line (Ok x) = Ok x
in_a_line (Err fault) = Err (fault_kind fault)

-- a byte string as the only word that is left, with room for this many bytes
abbrev pub payload_of : ℕ → List (List ℕ) → Result (List ℕ) ScriptKind
payload_of room words = do
  word ← operand_of words
  in_a_line (at_most room (byte_string word))
