-- The input of decode: the pieces of a stream as byte strings, one to a line.
-- Source: this project's own.
use Rattle.std.specs.Prelude.{◌≡◌, ℕ, ◌+◌, ◌-◌, List, [], ◌++◌, length, Result, Ok, Err, IsOk}
use Rattle.list_laws.specs.Results.{◌>>=◌}
use Rattle.script_words.specs.Words.{lines_of}
use Rattle.script_words.specs.KeptLines.{Lines, stops, refused, line, kept_lines}
use Rattle.script_words.specs.ByteStrings.{at_most, byte_string, ByteFault}
use Rattle.script_words.specs.ByteStrings as fault
use Rattle.script_words.specs.declared.byte_string.PushError.{PushError}
use Rattle.script_words.specs.declared.byte_string.PushError.TheVariants as push
use Rattle.stream_text.specs.declared.error.DecodeKind.{DecodeKind}
use Rattle.stream_text.specs.declared.error.DecodeKind.TheVariants.{BadHex, TooManyLines, TooManyBytes}
use Rattle.stream_text.specs.declared.error.DecodeError.{DecodeError}
use Rattle.stream_text.specs.declared.error.DecodeError.TheVariants as error

-- what is wrong with a line, by what is wrong with its byte string
abbrev pub fault_kind : ByteFault → DecodeKind
fault_kind fault.BadHex = BadHex
fault_kind fault.TooManyBytes = TooManyBytes

-- the bytes of the line of this number, or what is wrong with it
abbrev pub in_line : ℕ → Result (List ℕ) ByteFault → Result (List ℕ) (ℕ × DecodeKind)
in_line number (Ok piece) = Ok piece
in_line number (Err fault) = Err (number, fault_kind fault)

-- the piece of the line of this number, after lines that spell this many bytes: all lines spell at most 8,388,608
abbrev pub piece_at : ℕ → ℕ → List ℕ → Result (List ℕ) (ℕ × DecodeKind)
piece_at number before text = in_line number (at_most (8388608 - before) (byte_string text))

-- the stream of these lines, after lines that spell this many bytes; or the number of the first bad line,
-- and what is wrong with it
unfoldable pub stream_from : Lines → ℕ → Result (List ℕ) (ℕ × DecodeKind)
stream_from (stops number) before = Ok []
stream_from (refused number) before = Err (number, TooManyLines)
stream_from (line number text more) before = do
  piece ← piece_at number before text
  rest ← stream_from more (before + length piece)
  Ok (piece ++ rest)

-- the lines of an input
abbrev pub input_lines : List ℕ → Lines
input_lines input = kept_lines 1 (lines_of input)

-- the stream of an input: the pieces of its lines, one after the other
abbrev pub stream_of : List ℕ → Result (List ℕ) (ℕ × DecodeKind)
stream_of input = stream_from (input_lines input) 0

-- a refusal of an input is the one that is due; memory may run out at a line before the first bad one
abbrev pub IsRefusal : {A : Type 0} → DecodeError → Result A (ℕ × DecodeKind) → Type 0
IsRefusal (error.Bad number kind) due = due ≡ Err (number, kind)
IsRefusal error.Memory due = Unit {0}

-- a refusal of a line is the one that is due; memory runs out only if the line is good
abbrev pub IsLineRefusal : {A : Type 0} → DecodeError → Result A (ℕ × DecodeKind) → Type 0
IsLineRefusal (error.Bad number kind) due = due ≡ Err (number, kind)
IsLineRefusal error.Memory due = IsOk due

-- the first line has a piece, or there is none
abbrev pub FirstIsGood : Lines → Type 0
FirstIsGood (stops number) = Unit {0}
FirstIsGood (refused number) = ⊥
FirstIsGood (line number text more) = IsOk (piece_at number 0 text)

-- likewise of an input: memory may then be taken before a bad line is found
abbrev pub BeginsWell : List ℕ → Type 0
BeginsWell input = FirstIsGood (input_lines input)

-- why the line of this number gave no piece
abbrev pub refused_at : ℕ → PushError → DecodeError
refused_at number push.BadHex = error.Bad number BadHex
refused_at number push.TooManyBytes = error.Bad number TooManyBytes
refused_at number push.Memory = error.Memory
