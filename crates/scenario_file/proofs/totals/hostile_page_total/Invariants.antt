use Rattle.std.proofs.Common.{◌≡◌, ◌≤◌, ◌*◌, length, take}
use Rattle.std.specs.Prelude.{sum_by}
use Rattle.scenario_file.specs.Scenario.{hostile_pages}
use Rattle.scenario_file.proofs.totals.hostile_page_total.Given as goal

abbrev pub invariant-loop-domain : goal.invariant-loop-domain
invariant-loop-domain l =
    (l.total ≡ sum_by (hostile_pages (length l.domains)) (take l.domain-index l.domains)) × (l.total ≤ l.domain-index * 992)
