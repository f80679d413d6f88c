use Rattle.std.proofs.Common.{◌∙◌}
use Rattle.scenario_file.proofs.PlaceLaws.{position_named, place_within}
use Rattle.scenario_file.proofs.lookup.place_named.Goals as goal

pub returns-clause-place : goal.returns-clause-place
returns-clause-place c = c.position_named.ensures ∙ position_named c.args.domains.now c.args.name.now

pub returns-clause-within : goal.returns-clause-within
returns-clause-within c = place_within _ _ c.args.name.now (c.position_named.ensures ∙ position_named c.args.domains.now c.args.name.now)
