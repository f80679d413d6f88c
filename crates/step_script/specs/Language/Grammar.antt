-- Which bytes are a step script.
-- Source: this project's own; the check of the two orders is that of libxenvchan's init.c.
use Rattle.std.specs.Prelude.{ℕ, ◌-◌, List, [], ◌∷◌, length, if◌then◌else◌, ok_or, Option, None, Some, Result, Ok, Err, codes, bytes_eq}
use Rattle.list_laws.specs.Results.{◌>>=◌}
use Rattle.ring_words.specs.declared.order.Orders.{Orders}
use Rattle.ring_words.specs.declared.page.Role.{Role}
use Rattle.vchan_protocol.specs.declared.call.Call.TheVariants as call
use Rattle.vchan_protocol.specs.declared.call.EndState.{EndState}
use Rattle.vchan_protocol.specs.declared.call.EndState.TheVariants.{Fresh, Open}
use Rattle.step_script.specs.declared.error.ScriptKind.{ScriptKind}
use Rattle.step_script.specs.declared.error.ScriptKind.TheVariants.{BadHeader, BadLine, BadOrders, TooManyLines}
use Rattle.step_script.specs.declared.read.forms.Verb.{Verb}
use Rattle.step_script.specs.declared.read.forms.Verb.TheVariants.{Makes, Does}
use Rattle.step_script.specs.declared.read.forms.CallForm.{CallForm}
use Rattle.step_script.specs.declared.read.forms.CallForm.TheVariants.{Write, Send, Read, Recv, Drain, Bare}
use Rattle.step_script.specs.declared.read.forms.Act.{Act}
use Rattle.step_script.specs.declared.read.forms.Act.TheVariants.{Begin, Step, Finish, Poke, Signal}
use Rattle.step_script.specs.declared.script.Opening.{Opening}
use Rattle.script_words.specs.Words.{lines_of, words_of}
use Rattle.step_script.specs.Language.Opening.{orders_of}
use Rattle.step_script.specs.Parts.Forms.{without_payload}
use Rattle.step_script.specs.Language.Operands.{given, operand_of, alone, number_between, count_of, payload_of}
use Rattle.script_words.specs.KeptLines.{Lines, stops, refused, line, kept_lines}
use Rattle.step_script.specs.Language.Pokes.{poked_word}
use Rattle.step_script.specs.Language.Script.{StepCall, StepLine, opens, calls, begins, steps, finishes, pokes, signals}
use Rattle.step_script.specs.Parts.ScriptLines.{payload_len}
use Rattle.step_script.specs.Language.Tables.{verb_first, meaning_first, ends, calls_of, page_lines}

-- a call of a form with the words after it, with room for this many bytes
abbrev pub call_of_form : ℕ → CallForm → List (List ℕ) → Result StepCall ScriptKind
call_of_form room Write words = do
  bytes ← payload_of room words
  Ok (record { call = call.Write (length bytes); payload = bytes })
call_of_form room Send words = do
  bytes ← payload_of room words
  Ok (record { call = call.Send (length bytes); payload = bytes })
call_of_form room Read words = do
  most ← count_of 0 2147483647 words
  Ok (without_payload (call.Read most))
call_of_form room Recv words = do
  count ← count_of 0 2147483647 words
  Ok (without_payload (call.Recv count))
call_of_form room Drain words = do
  most ← count_of 1 2147483647 words
  Ok (without_payload (call.Drain most))
call_of_form room (Bare c) words = alone (without_payload c) words

-- a call of an end: its word, and the words after it
abbrev pub call_of : ℕ → Role → List (List ℕ) → Result StepCall ScriptKind
call_of room who words = do
  found ← ok_or (meaning_first (calls_of who) words) BadLine
  call_of_form room found.0 found.1

-- a store of a turned end: a word of the page, and a number of 64 bits
abbrev pub poke_of : Orders → Role → List (List ℕ) → Result StepLine ScriptKind
poke_of orders who [] = Err BadLine
poke_of orders who (name ∷ words) = do
  value ← operand_of words
  word ← poked_word orders name
  number ← number_between 0 18446744073709551615 value
  Ok (pokes who word number)

-- what an end does that isn't a whole call, with the words after its word
abbrev pub line_of_act : Orders → ℕ → Role → Act → List (List ℕ) → Result StepLine ScriptKind
line_of_act orders room who Begin words = do
  c ← call_of room who words
  Ok (begins who c)
line_of_act orders room who Step words = do
  most ← count_of 1 2147483647 words
  Ok (steps who most)
line_of_act orders room who Finish words = alone (finishes who) words
line_of_act orders room who Poke words = poke_of orders who words
line_of_act orders room who Signal words = alone (signals who) words

-- the words after what an end does
abbrev pub line_of_verb : Orders → ℕ → Role → Verb → List (List ℕ) → Result StepLine ScriptKind
line_of_verb orders room who (Makes form) words = do
  c ← call_of_form room form words
  Ok (calls who c)
line_of_verb orders room who (Does act) words = line_of_act orders room who act words

-- a line of an end, as the words after the end's word: a whole call if the first names one, else an act
abbrev pub line_of_end : Orders → ℕ → Role → List (List ℕ) → Result StepLine ScriptKind
line_of_end orders room who words = do
  found ← ok_or (verb_first who words) BadLine
  line_of_verb orders room who found.0 found.1

-- `head` and `image`
abbrev pub line_of_page : List (List ℕ) → Result StepLine ScriptKind
line_of_page words = do
  found ← ok_or (meaning_first page_lines words) BadLine
  alone found.0 found.1

-- a line of an end, if there is one of that name, or one of the page
abbrev pub line_of_first : Orders → ℕ → Option (Role × List (List ℕ)) → List (List ℕ) → Result StepLine ScriptKind
line_of_first orders room (Some (who, more)) words = line_of_end orders room who more
line_of_first orders room None words = line_of_page words

-- a line after the opening, as its words
abbrev pub line_of : Orders → ℕ → List (List ℕ) → Result StepLine ScriptKind
line_of orders room words = line_of_first orders room (meaning_first ends words) words

-- two numbers that are orders of a page
abbrev pub orders_of_words : List ℕ → List ℕ → Result (ℕ × ℕ) ScriptKind
orders_of_words left right = do
  l ← number_between 0 65535 left
  r ← number_between 0 65535 right
  Ok (l, r)

-- a page with these orders, with what its order words hold and its client's state; all indices are 0
abbrev pub page_opening : ℕ × ℕ → ℕ × ℕ → EndState → Result Opening ScriptKind
page_opening numbers said state = do
  orders ← ok_or (orders_of numbers.0 numbers.1) BadOrders
  Ok (record { orders = orders; said = said; state = state; start = 0 })

-- `open L R`: the order words hold the orders, and the client is open
abbrev pub open_of : List ℕ → List ℕ → Result Opening ScriptKind
open_of left right = do
  l ← given left
  r ← given right
  numbers ← orders_of_words l r
  page_opening numbers numbers Open

-- `fresh L R A B`: the order words hold A and B, and the client is fresh
abbrev pub fresh_of : List ℕ → List ℕ → List ℕ → List ℕ → Result Opening ScriptKind
fresh_of left right said_left said_right = do
  l ← given left
  r ← given right
  a ← given said_left
  b ← given said_right
  numbers ← orders_of_words l r
  said ← orders_of_words a b
  page_opening numbers said Fresh

-- the words after `open`
abbrev pub open_operands : List (List ℕ) → Result Opening ScriptKind
open_operands (left ∷ right ∷ []) = open_of left right
open_operands _ = Err BadHeader

-- the words after `fresh`
abbrev pub fresh_operands : List (List ℕ) → Result Opening ScriptKind
fresh_operands (left ∷ right ∷ said_left ∷ said_right ∷ []) = fresh_of left right said_left said_right
fresh_operands _ = Err BadHeader

-- the first line, as its words
abbrev pub opening_of : List (List ℕ) → Result Opening ScriptKind
opening_of [] = Err BadHeader
opening_of (verb ∷ operands) =
    if bytes_eq verb (codes "open") then open_operands operands
    else if bytes_eq verb (codes "fresh") then fresh_operands operands
    else Err BadHeader

-- what is wrong with a line, with its number
abbrev pub at_number : {A : Type 0} → ℕ → Result A ScriptKind → Result A (ℕ × ScriptKind)
at_number number (Ok x) = Ok x
at_number number (Err kind) = Err (number, kind)

-- the opening, and the lines after it
abbrev pub opening_from : Lines → Result (Opening × Lines) (ℕ × ScriptKind)
opening_from (stops number) = Err (number, BadHeader)
opening_from (refused number) = Err (number, TooManyLines)
opening_from (line number text more) = do
  opening ← at_number number (opening_of (words_of text))
  Ok (opening, more)

-- N of `start N`
abbrev pub start_word : List (List ℕ) → Option (List ℕ)
start_word (verb ∷ number ∷ []) = if bytes_eq verb (codes "start") then Some number else None
start_word _ = None

-- the number that such a word is
abbrev pub start_of : List ℕ → Result ℕ ScriptKind
start_of word = do
  given_word ← given word
  number_between 0 4294967295 given_word

-- N of a `start` line and the lines after it; for another line 0, and all lines from it on
abbrev pub started : ℕ → Option (List ℕ) → Lines → Lines → Result (ℕ × Lines) (ℕ × ScriptKind)
started number (Some word) lines more = do
  start ← at_number number (start_of word)
  Ok (start, more)
started number None lines more = Ok (0, lines)

-- where all indices begin, by a `start` line if one stands in front; and the lines after it
abbrev pub start_from : Lines → Result (ℕ × Lines) (ℕ × ScriptKind)
start_from (stops number) = Ok (0, stops number)
start_from (refused number) = Err (number, TooManyLines)
start_from (line number text more) = started number (start_word (words_of text)) (line number text more) more

-- how the page is opened, by the first line and a `start` line after it; and the lines after these
abbrev pub front_from : Lines → Result (Opening × Lines) (ℕ × ScriptKind)
front_from lines = do
  first ← opening_from lines
  second ← start_from first.1
  Ok (record first.0 { start = second.0 }, second.1)

-- the lines of a page with these orders, with room for this many bytes; or the first bad one
unfoldable pub lines_from : Orders → ℕ → Lines → Result (List StepLine) (ℕ × ScriptKind)
lines_from orders room (stops number) = Ok []
lines_from orders room (refused number) = Err (number, TooManyLines)
lines_from orders room (line number text more) = do
  next ← at_number number (line_of orders room (words_of text))
  rest ← lines_from orders (room - payload_len next) more
  Ok (next ∷ rest)

-- a script as its lines: all byte strings together have at most 8,388,608 bytes
abbrev pub script_of_lines : Lines → Result (List StepLine) (ℕ × ScriptKind)
script_of_lines lines = do
  front ← front_from lines
  rest ← lines_from front.0.orders 8388608 front.1
  Ok (opens front.0 ∷ rest)

-- the lines of a script; or the number of its first bad line, from 1, and what is wrong with it
abbrev pub script_of : List ℕ → Result (List StepLine) (ℕ × ScriptKind)
script_of bytes = script_of_lines (kept_lines 1 (lines_of bytes))
