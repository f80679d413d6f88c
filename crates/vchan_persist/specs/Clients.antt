-- A list of clients: which bytes are one, and which clients it has.
-- Source: this project's own.
use Rattle.std.specs.Prelude.{ℕ, ◌+◌, ◌==◌, ◌||◌, ◌≤◌, nat_lt, Bool, List, [], ◌∷◌, ◌++◌, length, if◌then◌else◌, ok_or, Option, None, Some, Result, Ok, Err, IsOk, MatchBool, codes, bytes_eq}
use Rattle.std.specs.List.{AllByRecursion as Each}
use Rattle.list_laws.specs.Results.{◌>>=◌}
use Rattle.script_words.specs.ByteStrings.{byte_string}
use Rattle.script_words.specs.KeptLines.{is_passed_over}
use Rattle.script_words.specs.Numbers.{number_of}
use Rattle.script_words.specs.Words.{lines_of, only, words_of}
use Rattle.vchan_persist.specs.declared.client.Client.{Client}
use Rattle.vchan_persist.specs.declared.client.Client.TheVariants.{Call, Hostile}
use Rattle.vchan_persist.specs.declared.error.ClientsKind.{ClientsKind}
use Rattle.vchan_persist.specs.declared.error.ClientsKind.TheVariants.{BadLine, BadNumber, BadHex, TooMany}

-- ---- a line

-- a word with at least one byte
abbrev pub given : List ℕ → Result (List ℕ) ClientsKind
given word = if length word == 0 then Err BadLine else Ok word

-- the only word that is left
abbrev pub operand_of : List (List ℕ) → Result (List ℕ) ClientsKind
operand_of words = do
  word ← ok_or (only words) BadLine
  given word

-- a number from the least to the most
abbrev pub number_between : ℕ → ℕ → List ℕ → Result ℕ ClientsKind
number_between least most word = do
  number ← ok_or (number_of most word) BadNumber
  if nat_lt number least then Err BadNumber else Ok number

-- the words after `call`: a byte string
abbrev pub call_of : List (List ℕ) → Result Client ClientsKind
call_of words = do
  word ← operand_of words
  stdin ← ok_or (byte_string word) BadHex
  Ok (Call stdin)

-- the words after `hostile`: a seed, and a number of stores
abbrev pub hostile_of : List (List ℕ) → Result Client ClientsKind
hostile_of [] = Err BadLine
hostile_of (first ∷ more) = do
  second ← operand_of more
  word ← given first
  seed ← number_between 0 65535 word
  stores ← number_between 1 65536 second
  Ok (Hostile seed stores)

-- a line that isn't skipped, as its words
abbrev pub client_of : List (List ℕ) → Result Client ClientsKind
client_of [] = Err BadLine
client_of (word ∷ more) =
    if bytes_eq word (codes "call") then call_of more
    else if bytes_eq word (codes "hostile") then hostile_of more
    else Err BadLine

-- what stands on a line: a client, or nothing if it is skipped
abbrev pub some_client : Result Client ClientsKind → Result (Option Client) ClientsKind
some_client (Ok client) = Ok (Some client)
some_client (Err kind) = Err kind

abbrev pub entry_of : List ℕ → Result (Option Client) ClientsKind
entry_of text = if is_passed_over text then Ok None else some_client (client_of (words_of text))

-- ---- a list

-- how many bytes the inputs of the clients have
abbrev pub stdin_len : Client → ℕ
stdin_len (Call stdin) = length stdin
stdin_len (Hostile seed stores) = 0

unfoldable pub stdin_total : List Client → ℕ
stdin_total [] = 0
stdin_total (client ∷ more) = stdin_len client + stdin_total more

-- the clients with what stands on one more line
abbrev pub added : List Client → Option Client → List Client
added clients None = clients
added clients (Some client) = clients ++ client ∷ []

-- there are too many clients, or their inputs have too many bytes
abbrev pub has_too_many : List Client → Bool
has_too_many clients = nat_lt 4096 (length clients) || nat_lt 8388608 (stdin_total clients)

-- there are too many, or the line of this number is one too many
abbrev pub too_many : ℕ → List Client → Bool
too_many number clients = nat_lt 65536 number || has_too_many clients

-- the clients with those of the line of this number
abbrev pub with_line : ℕ → List Client → List ℕ → Result (List Client) ClientsKind
with_line number clients text = do
  entry ← entry_of text
  if too_many number (added clients entry) then Err TooMany else Ok (added clients entry)

-- what is wrong with a line, with its number
abbrev pub at_number : {A : Type 0} → ℕ → Result A ClientsKind → Result A (ℕ × ClientsKind)
at_number number (Ok x) = Ok x
at_number number (Err kind) = Err (number, kind)

-- the clients of lines from this number on, after those of the lines before; or the number of the first bad line, and what is wrong with it
unfoldable pub clients_from : ℕ → List Client → List (List ℕ) → Result (List Client) (ℕ × ClientsKind)
clients_from number clients [] = Ok clients
clients_from number clients (text ∷ more) = do
  now ← at_number number (with_line number clients text)
  clients_from (number + 1) now more

-- the clients of a text
abbrev pub clients_of : List ℕ → Result (List Client) (ℕ × ClientsKind)
clients_of bytes = clients_from 1 [] (lines_of bytes)

-- ---- what a list has

-- a client whose numbers are in range
abbrev pub IsServable : Client → Type 0
IsServable (Call stdin) = Unit {0}
IsServable (Hostile seed stores) = (seed ≤ 65535) × (1 ≤ stores) × (stores ≤ 65536)

-- no more clients than one server takes, all in range
abbrev pub AreServable : List Client → Type 0
AreServable clients = (length clients ≤ 4096) × Each IsServable clients

-- the first line that isn't skipped has a client, or there is none
abbrev pub BeginsWell : List (List ℕ) → Type 0
BeginsWell [] = Unit {0}
BeginsWell (text ∷ more) = MatchBool (is_passed_over text) (BeginsWell more) (IsOk (client_of (words_of text)))
