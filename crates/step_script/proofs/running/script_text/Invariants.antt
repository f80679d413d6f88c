use Rattle.script_words.specs.LinesLeft.{lines_left}
use Rattle.step_script.proofs.Parts.RunningLaws.{Running}
use Rattle.script_words.proofs.LineLaws.{count_left}
use Rattle.step_script.proofs.running.script_text.Given as goal

abbrev pub invariant-loop-payload : goal.invariant-loop-payload
invariant-loop-payload l = Running l.bytes l.opening l.player l.room (lines_left l.reader)

abbrev pub decreases-loop-payload : goal.decreases-loop-payload
decreases-loop-payload l = count_left (lines_left l.reader)
