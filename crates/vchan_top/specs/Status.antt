-- The statuses of the program: their numbers, and the lines that it prints with them.
use Rattle.std.specs.Prelude.{◌≡◌, ◌⊎◌, ℕ, List, [], ◌++◌, Option, Some, None, Result, Ok, Err, codes, decimal}
use Rattle.vchan_io.specs.Counts.{Rose}
use Rattle.vchan_io.specs.Streams.{Appends, AppendsProperPrefix}
use Rattle.vchan_io.specs.declared.writing.WriteFault.{WriteFault as SinkFailed}
use Rattle.step_script.specs.declared.error.ScriptKind.{ScriptKind}
use Rattle.step_script.specs.declared.error.ScriptKind.TheVariants as script
use Rattle.stream_text.specs.declared.error.DecodeKind.{DecodeKind}
use Rattle.stream_text.specs.declared.error.DecodeKind.TheVariants as decode
use Rattle.scenario_file.specs.declared.error.ScenarioKind.{ScenarioKind}
use Rattle.scenario_file.specs.KeyTexts.{IsPrintable}
use Rattle.scenario_file.specs.KindWords.{fault_line}
use Rattle.vchan_persist.specs.declared.error.ClientsKind.{ClientsKind}
use Rattle.vchan_persist.specs.declared.error.ClientsKind.TheVariants as clients
use Rattle.vchan_top.specs.declared.status.Status.{Status}
use Rattle.vchan_top.specs.declared.status.Status.TheVariants.{Done, BadWords, ReadFault, TooLong, BadInput, WriteFault, OutOfMemory}
use Rattle.vchan_top.specs.declared.status.Bad.{Bad}
use Rattle.vchan_top.specs.declared.status.Bad.TheVariants.{Script, Decode, Clients, Scenario}

-- the number of a status
abbrev pub code_of : Status → ℕ
code_of Done = 0
code_of BadWords = 2
code_of ReadFault = 3
code_of TooLong = 4
code_of (BadInput wrong) = 5
code_of WriteFault = 6
code_of OutOfMemory = 7

-- the number with which the program ends: that of its status, or 8 if a word isn't UTF-8
abbrev pub number_of_exit : Option Status → ℕ
number_of_exit (Some status) = code_of status
number_of_exit None = 8

-- what is wrong with a line of a script, in the program's words
abbrev pub script_word : ScriptKind → List ℕ
script_word script.BadHeader = codes "bad-header"
script_word script.BadLine = codes "bad-line"
script_word script.BadNumber = codes "bad-number"
script_word script.BadHex = codes "bad-hex"
script_word script.BadOrders = codes "bad-orders"
script_word script.TooManyLines = codes "too-many-lines"
script_word script.TooManyBytes = codes "too-many-bytes"

-- what is wrong with a line of byte strings
abbrev pub decode_word : DecodeKind → List ℕ
decode_word decode.BadHex = codes "bad-hex"
decode_word decode.TooManyLines = codes "too-many-lines"
decode_word decode.TooManyBytes = codes "too-many-bytes"

-- what is wrong with a line of a list of clients
abbrev pub clients_word : ClientsKind → List ℕ
clients_word clients.BadLine = codes "bad-line"
clients_word clients.BadNumber = codes "bad-number"
clients_word clients.BadHex = codes "bad-hex"
clients_word clients.TooMany = codes "too-many"

-- the line that the program prints for a bad line
abbrev pub bad_line : ℕ → List ℕ → List ℕ
bad_line line word = codes "vchan: line " ++ decimal line ++ codes ": " ++ word ++ codes "\n"

-- the line that the program prints for a bad place of a scenario file
abbrev pub bad_place : ScenarioKind → List ℕ → List ℕ
bad_place kind path = codes "vchan: " ++ fault_line kind path ++ codes "\n"

-- the line that the program prints for a bad input
abbrev pub bad_input : Bad → List ℕ
bad_input (Script line kind) = bad_line line (script_word kind)
bad_input (Decode line kind) = bad_line line (decode_word kind)
bad_input (Clients line kind) = bad_line line (clients_word kind)
bad_input (Scenario kind path) = bad_place kind path

-- the line that the program prints with a status, with its line feed; none if all went well
abbrev pub status_line : Status → List ℕ
status_line Done = []
status_line BadWords = codes "vchan: bad words\n"
status_line ReadFault = codes "vchan: read fault\n"
status_line TooLong = codes "vchan: input too long\n"
status_line (BadInput wrong) = bad_input wrong
status_line WriteFault = codes "vchan: write fault\n"
status_line OutOfMemory = codes "vchan: out of memory\n"

-- no text, or one line of printable ASCII with its line feed
abbrev pub IsAtMostALine : List ℕ → Type 0
IsAtMostALine text = (text ≡ []) ⊎ ((line : List ℕ) × IsPrintable line × (text ≡ line ++ codes "\n"))

-- a line was written to a sink, of which these are the bytes and the counts of faults before and after
abbrev pub IsAllWritten : List ℕ → Option (List ℕ) → Option (List ℕ) → ℕ → ℕ → Type 0
IsAllWritten line held held' faults faults' = Appends held held' line × (faults' ≡ faults)

-- or only a proper prefix of it was, and the count rose
abbrev pub IsCutShort : List ℕ → Option (List ℕ) → Option (List ℕ) → ℕ → ℕ → Type 0
IsCutShort line held held' faults faults' = AppendsProperPrefix held held' line × Rose faults faults'

abbrev pub IsWritten : List ℕ → Option (List ℕ) → Option (List ℕ) → ℕ → ℕ → Type 0
IsWritten line held held' faults faults' = IsAllWritten line held held' faults faults' ⊎ IsCutShort line held held' faults faults'

-- which it was, by what was answered
abbrev pub Writes : List ℕ → Option (List ℕ) → Option (List ℕ) → ℕ → ℕ → Result (Unit {0}) SinkFailed → Type 0
Writes line held held' faults faults' (Ok done) = IsAllWritten line held held' faults faults'
Writes line held held' faults faults' (Err failed) = IsCutShort line held held' faults faults'
