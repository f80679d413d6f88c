use Rattle.std.proofs.Common.{◌≡◌, take}
use Rattle.scenario_file.specs.Lines.{lines_among}
use Rattle.scenario_file.proofs.outcomes.lines_among.Given as goal

abbrev pub invariant-loop-call : goal.invariant-loop-call
invariant-loop-call l = l.lines.items ≡ lines_among l.domains (take l.call-index l.calls)
