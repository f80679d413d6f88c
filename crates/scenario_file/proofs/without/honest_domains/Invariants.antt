use Rattle.std.proofs.Common.{◌≡◌, take}
use Rattle.scenario_file.specs.Lines.{honest}
use Rattle.scenario_file.proofs.without.honest_domains.Given as goal

abbrev pub invariant-loop-domain : goal.invariant-loop-domain
invariant-loop-domain l = l.left.items ≡ honest (take l.domain-index l.domains)
