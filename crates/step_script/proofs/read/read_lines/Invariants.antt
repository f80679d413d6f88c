use Rattle.std.proofs.Common.{◌≡◌, ◌+◌}
use Rattle.std.specs.List.{sum_by, All}
use Rattle.step_script.specs.Language.Grammar.{lines_from}
use Rattle.script_words.specs.LinesLeft.{lines_left}
use Rattle.step_script.specs.Language.Script.{LineFits}
use Rattle.step_script.specs.Parts.ScriptLines.{lines_seen, payload_len}
use Rattle.script_words.proofs.LineLaws.{count_left}
use Rattle.step_script.proofs.Language.ScriptLaws.{behind}
use Rattle.step_script.proofs.read.read_lines.Given as goal

abbrev pub invariant-loop-payload : goal.invariant-loop-payload
invariant-loop-payload l = record {
  read : behind (lines_seen l.lines.items) (lines_from l.orders l.room (lines_left l.reader)) ≡ lines_from l.orders 8388608 (lines_left l.fn.reader);
  fit : All (LineFits l.orders) (lines_seen l.lines.items);
  short : sum_by payload_len (lines_seen l.lines.items) + l.room ≡ 8388608;
}

abbrev pub decreases-loop-payload : goal.decreases-loop-payload
decreases-loop-payload l = count_left (lines_left l.reader)
