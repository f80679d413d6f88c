-- What a reader answers, against what the bytes are.
use Rattle.std.specs.Prelude.{◌≡◌, ℕ, List, Result, Ok, Err, IsOk}
use Rattle.script_words.specs.KeptLines.{kept_lines}
use Rattle.script_words.specs.Words.{lines_of}
use Rattle.script_words.specs.declared.byte_string.PushError.{PushError}
use Rattle.script_words.specs.declared.byte_string.PushError.TheVariants as push
use Rattle.script_words.specs.declared.lines.TooManyLines.{TooManyLines}
use Rattle.step_script.specs.Language.Grammar.{front_from}
use Rattle.step_script.specs.declared.error.BadLine.{BadLine}
use Rattle.step_script.specs.declared.error.ScriptKind.{ScriptKind}
use Rattle.step_script.specs.declared.error.ScriptKind.TheVariants as kind
use Rattle.step_script.specs.declared.error.ScriptError.{ScriptError}
use Rattle.step_script.specs.declared.error.ScriptError.TheVariants as script
use Rattle.step_script.specs.declared.error.LineError.{LineError}
use Rattle.step_script.specs.declared.error.LineError.TheVariants as line

-- ---- readers that take no memory: they answer what is due, as contracts see it

-- of a part of a line
abbrev pub Finds : {X Y : Type 0} → (X → Y) → Result X ScriptKind → Result Y ScriptKind → Type 0
Finds seen (Ok x) due = due ≡ Ok (seen x)
Finds seen (Err kind) due = due ≡ Err kind

-- of a line, with its number
abbrev pub FindsAt : {X Y : Type 0} → (X → Y) → Result X BadLine → Result Y (ℕ × ScriptKind) → Type 0
FindsAt seen (Ok x) due = due ≡ Ok (seen x)
FindsAt seen (Err bad) due = due ≡ Err (bad.line, bad.kind)

-- ---- readers of a line that take memory: memory runs out only if the line is good

-- a refusal of a part of a line
abbrev pub IsLineRefusal : {Y : Type 0} → LineError → Result Y ScriptKind → Type 0
IsLineRefusal (line.Bad kind) due = due ≡ Err kind
IsLineRefusal line.Memory due = IsOk due

-- what a reader of a part of a line answers
abbrev pub Gives : {X Y : Type 0} → (X → Y) → Result X LineError → Result Y ScriptKind → Type 0
Gives seen (Ok x) due = due ≡ Ok (seen x)
Gives seen (Err e) due = IsLineRefusal e due

-- likewise of a line, with its number
abbrev pub IsNumberedRefusal : {Y : Type 0} → ScriptError → Result Y (ℕ × ScriptKind) → Type 0
IsNumberedRefusal (script.Bad line kind) due = due ≡ Err (line, kind)
IsNumberedRefusal script.Memory due = IsOk due

abbrev pub GivesAt : {X Y : Type 0} → (X → Y) → Result X ScriptError → Result Y (ℕ × ScriptKind) → Type 0
GivesAt seen (Ok x) due = due ≡ Ok (seen x)
GivesAt seen (Err e) due = IsNumberedRefusal e due

-- ---- readers of many lines: memory may run out at a line before the first bad one

-- a refusal of a script is the one that is due
abbrev pub IsScriptRefusal : {Y : Type 0} → ScriptError → Result Y (ℕ × ScriptKind) → Type 0
IsScriptRefusal (script.Bad line kind) due = due ≡ Err (line, kind)
IsScriptRefusal script.Memory due = Unit {0}

-- a reader of lines answers what is due, as contracts see it
abbrev pub Reads :
    {X Y : Type 0} → (X → Y) → Result X ScriptError → Result Y (ℕ × ScriptKind) → Type 0
Reads seen (Ok x) due = due ≡ Ok (seen x)
Reads seen (Err e) due = IsScriptRefusal e due

-- the page's opening fits, so that memory is taken before a bad line is found
abbrev pub CanBeOpened : List ℕ → Type 0
CanBeOpened bytes = IsOk (front_from (kept_lines 1 (lines_of bytes)))

-- ---- errors of one kind as those of another

-- the error of a script whose line of this number has this error
abbrev pub error_at : LineError → ℕ → ScriptError
error_at (line.Bad kind) number = script.Bad number kind
error_at line.Memory number = script.Memory

-- why a line with such a word wasn't read
abbrev pub line_error_of : PushError → LineError
line_error_of push.BadHex = line.Bad kind.BadHex
line_error_of push.TooManyBytes = line.Bad kind.TooManyBytes
line_error_of push.Memory = line.Memory

-- the bad line of a text with too many lines
abbrev pub bad_line_of : TooManyLines → BadLine
bad_line_of many = record { line = many.line; kind = kind.TooManyLines }

-- a script that has this bad line
abbrev pub bad_script : BadLine → ScriptError
bad_script bad = script.Bad bad.line bad.kind
