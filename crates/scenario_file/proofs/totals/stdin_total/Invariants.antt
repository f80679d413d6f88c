use Rattle.std.proofs.Common.{◌≡◌, ◌≤◌, ◌*◌, take}
use Rattle.scenario_file.specs.Scenario.{stdin_total}
use Rattle.scenario_file.proofs.totals.stdin_total.Given as goal

abbrev pub invariant-loop-call : goal.invariant-loop-call
invariant-loop-call l = (l.total ≡ stdin_total (take l.call-index l.calls)) × (l.total ≤ l.call-index * 1048576)
