use Rattle.std.proofs.Common.{◌≡◌, [], drop, length}
use Rattle.std.specs.List.{All}
use Rattle.toml.specs.View.{items_view}
use Rattle.scenario_file.specs.Checks.{all_from}
use Rattle.scenario_file.specs.Scenario.{AreApart, DomainFits}
use Rattle.scenario_file.specs.Tables.{next_domain}
use Rattle.scenario_file.proofs.domains.read_items.Given as goal

abbrev pub invariant-loop-item : goal.invariant-loop-item
invariant-loop-item l =
    (all_from next_domain l.domains.items (items_view (drop l.item-index l.items)) ≡ all_from next_domain [] (items_view l.items)) × (length l.domains.items ≡ l.item-index) × All DomainFits l.domains.items × AreApart l.domains.items
