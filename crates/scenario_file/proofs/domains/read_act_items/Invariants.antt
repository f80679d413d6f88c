use Rattle.std.proofs.Common.{◌≡◌, [], drop, length}
use Rattle.std.specs.List.{All}
use Rattle.toml.specs.View.{items_view}
use Rattle.scenario_file.specs.Checks.{all_from}
use Rattle.scenario_file.specs.Acts.{ActFits}
use Rattle.scenario_file.specs.Tables.{next_act}
use Rattle.scenario_file.proofs.domains.read_act_items.Given as goal

abbrev pub invariant-loop-item : goal.invariant-loop-item
invariant-loop-item l =
    (all_from (next_act l.number) l.acts.items (items_view (drop l.item-index l.items)) ≡ all_from (next_act l.number) [] (items_view l.items)) × (length l.acts.items ≡ l.item-index) × All ActFits l.acts.items
