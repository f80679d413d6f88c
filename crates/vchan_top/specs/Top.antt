-- What a run of the program does, by its status.
use Rattle.std.specs.Prelude.{◌≡◌, ℕ, ◌<◌, ◌↔◌, true, false, List, [], length, Option, Some, None}
use Rattle.std.specs.Io.KnownBytes.{IsAtEnd}
use Rattle.vchan_io.specs.Counts.{Rose}
use Rattle.vchan_io.specs.Streams.{Takes, Appends, AppendsProperPrefix}
use Rattle.end_view.specs.Settled.{Settled}
use Rattle.run_laws.specs.Report.{Report}
use Rattle.vchan_top.specs.declared.command.Command.{Command}
use Rattle.vchan_top.specs.declared.status.Status.{Status}
use Rattle.vchan_top.specs.declared.status.Bad.{Bad}
use Rattle.vchan_top.specs.declared.status.Status.TheVariants.{Done, BadWords, ReadFault, TooLong, BadInput, WriteFault, OutOfMemory}
use Rattle.vchan_top.specs.Command.{command_of, words_read}
use Rattle.vchan_top.specs.EndOfRun.{EndOfRun}
use Rattle.vchan_top.specs.Prints.{Prints, IsBadFor}

-- the longest input that the program reads
abbrev pub greatest_input : ℕ
greatest_input = 4194304

-- these words are a command, and this is the text that it prints for these bytes, with this report and these pages
abbrev pub PrintedBy : List (List ℕ) → List ℕ → List ℕ → Option Report → List Settled → Type 0
PrintedBy words input text report pages =
    (command : Command) × (command_of words ≡ Some command) × Prints command input text report pages

-- these words are a command, and these bytes don't have its form
abbrev pub BadFor : List (List ℕ) → List ℕ → Bad → Type 0
BadFor words input wrong = (command : Command) × (command_of words ≡ Some command) × IsBadFor command input wrong

-- the source was read to its end, unless these words read nothing
abbrev pub IsReadBy : List (List ℕ) → Option (List ℕ) → Type 0
IsReadBy words left' = words_read (command_of words) ≡ true → IsAtEnd left'

-- nothing was written, and there is no report and no page
abbrev pub ShowsNothing : Option (List ℕ) → Option (List ℕ) → EndOfRun → Type 0
ShowsNothing held held' end = (held' ≡ held) × (end.report ≡ None) × (end.settled ≡ [])

-- what a status means for the bytes taken, the source afterwards, the sink for the output before and after, and the report and the pages
-- that are returned
abbrev pub Ends : Status → List (List ℕ) → List ℕ → Option (List ℕ) → ℕ → ℕ → Option (List ℕ) → Option (List ℕ) → ℕ → ℕ → EndOfRun → Type 0
Ends Done words taken left' reads reads' held held' writes writes' end =
    IsReadBy words left' × ((text : List ℕ) × PrintedBy words taken text end.report end.settled × Appends held held' text)
Ends BadWords words taken left' reads reads' held held' writes writes' end = ShowsNothing held held' end
Ends ReadFault words taken left' reads reads' held held' writes writes' end =
    (words_read (command_of words) ≡ true) × Rose reads reads' × ShowsNothing held held' end
Ends TooLong words taken left' reads reads' held held' writes writes' end = ShowsNothing held held' end
Ends (BadInput wrong) words taken left' reads reads' held held' writes writes' end =
    IsReadBy words left' × BadFor words taken wrong × ShowsNothing held held' end
Ends WriteFault words taken left' reads reads' held held' writes writes' end =
    IsReadBy words left' × Rose writes writes' × (end.settled ≡ [])
    × ((text : List ℕ) × ((pages : List Settled) × PrintedBy words taken text end.report pages) × AppendsProperPrefix held held' text)
Ends OutOfMemory words taken left' reads reads' held held' writes writes' end = ShowsNothing held held' end

-- A run with these words, from a source to a sink. Each has the bytes that it had left or held before, those after, and its counts of
-- faults before and after. Each count stays the same, except with its own status.
pub record IsRun (words : List (List ℕ)) (left left' : Option (List ℕ)) (reads reads' : ℕ) (held held' : Option (List ℕ)) (writes writes' : ℕ) (end : EndOfRun) : Type 0 where
  pub taken : List ℕ
  pub takes : Takes left left' taken
  -- bad words and `load` take nothing
  pub unread : words_read (command_of words) ≡ false → taken ≡ []
  pub bad_words : (end.status ≡ BadWords) ↔ (command_of words ≡ None)
  pub too_long : (end.status ≡ TooLong) ↔ (greatest_input < length taken)
  pub ends : Ends end.status words taken left' reads reads' held held' writes writes' end
  pub reads_stay : (¬ (end.status ≡ ReadFault)) → reads' ≡ reads
  pub writes_stay : (¬ (end.status ≡ WriteFault)) → writes' ≡ writes
