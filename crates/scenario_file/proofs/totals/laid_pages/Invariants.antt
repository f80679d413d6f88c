use Rattle.std.proofs.Common.{◌≡◌, ◌≤◌, take}
use Rattle.std.specs.Prelude.{count_by}
use Rattle.scenario_file.specs.Scenario.{lays_page}
use Rattle.scenario_file.proofs.totals.laid_pages.Given as goal

abbrev pub invariant-loop-call : goal.invariant-loop-call
invariant-loop-call l = (l.count ≡ count_by (lays_page l.domains) (take l.call-index l.calls)) × (l.count ≤ l.call-index)
