use Rattle.std.proofs.Common.{◌≡◌, map, take}
use Rattle.scenario_run.proofs.copies.names_of.Given as goal

abbrev pub invariant-loop-domain : goal.invariant-loop-domain
invariant-loop-domain l = l.names.items ≡ map (λ domain. domain.name) (take l.domain-index l.scenario.domains)
