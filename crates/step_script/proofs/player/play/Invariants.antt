use Rattle.std.proofs.Common.{drop}
use Rattle.step_script.specs.Parts.ScriptLines.{lines_seen}
use Rattle.step_script.proofs.Parts.PlayerLaws.{IsPlaying}
use Rattle.step_script.proofs.player.play.Given as goal

abbrev pub invariant-loop-line : goal.invariant-loop-line
invariant-loop-line l = IsPlaying l.script l.player (lines_seen (drop l.line-index l.line-items))
