-- The lines of a text that aren't read yet, as contracts see them.
use Rattle.std.specs.Prelude.{◌≡◌, ◌+◌, Result, Ok, Err}
use Rattle.script_words.specs.KeptLines.{Lines, stops, refused, line, kept_lines}
use Rattle.script_words.specs.Words.{lines_of}
use Rattle.script_words.specs.declared.lines.LineReader.{LineReader}
use Rattle.script_words.specs.declared.lines.NextLine.{NextLine}
use Rattle.script_words.specs.declared.lines.NextLine.TheVariants.{Line, End}
use Rattle.script_words.specs.declared.lines.TooManyLines.{TooManyLines}

-- the lines after those that were read
abbrev pub lines_left : LineReader → Lines
lines_left r = kept_lines (r.passed + 1) (lines_of r.rest.now)

-- the next line of these; what is left then
abbrev pub IsNext : Result NextLine TooManyLines → Lines → Lines → Type 0
IsNext (Ok (Line number text)) lines left = lines ≡ line number text.now left
IsNext (Ok (End number)) lines left = lines ≡ stops number
IsNext (Err e) lines left = lines ≡ refused e.line
