use Rattle.std.proofs.Common.{◌+◌, ap, sym, ◌∙◌}
use Rattle.scenario_file.proofs.WithoutLaws.{number_left_pred}
use Rattle.scenario_file.proofs.without.number_left.Goals as goal

pub returns : goal.returns
returns c = ap (λ n. n + 1) c.honest_count.ensures.count ∙ sym (number_left_pred c.args.domains.now c.args.number c.requires.honest)
