use Rattle.std.proofs.Common.{◌≡◌, take}
use Rattle.scenario_file.specs.Lines.{calls_left}
use Rattle.scenario_file.proofs.without.calls_left.Given as goal

abbrev pub invariant-loop-call : goal.invariant-loop-call
invariant-loop-call l = l.left.items ≡ calls_left l.domains (take l.call-index l.calls)
