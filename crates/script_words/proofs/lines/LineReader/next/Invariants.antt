use Rattle.std.proofs.Common.{◌≡◌, length}
use Rattle.script_words.specs.LinesLeft.{lines_left}
use Rattle.script_words.proofs.lines.LineReader.next.Given as goal

abbrev pub invariant-loop-text : goal.invariant-loop-text
invariant-loop-text l = lines_left l.self ≡ lines_left l.initial.self

abbrev pub decreases-loop-text : goal.decreases-loop-text
decreases-loop-text l = length l.self.rest.now
