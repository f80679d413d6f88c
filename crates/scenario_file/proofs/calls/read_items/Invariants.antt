use Rattle.std.proofs.Common.{◌≡◌, [], drop, length}
use Rattle.std.specs.List.{All}
use Rattle.toml.specs.View.{items_view}
use Rattle.scenario_file.specs.Checks.{all_from}
use Rattle.scenario_file.specs.Scenario.{CallFits}
use Rattle.scenario_file.specs.Tables.{next_call}
use Rattle.scenario_file.proofs.NumberLaws.{IsNumbered}
use Rattle.scenario_file.proofs.calls.read_items.Given as goal

abbrev pub invariant-loop-item : goal.invariant-loop-item
invariant-loop-item l =
    (all_from (next_call l.domains) l.calls.items (items_view (drop l.item-index l.items)) ≡ all_from (next_call l.domains) [] (items_view l.items)) × (length l.calls.items ≡ l.item-index) × All (CallFits l.domains) l.calls.items × IsNumbered 1 l.calls.items
