use Rattle.std.proofs.Common.{◌≡◌, ◌≤◌, length, take}
use Rattle.scenario_file.specs.Lines.{honest}
use Rattle.scenario_file.proofs.without.honest_count.Given as goal

abbrev pub invariant-loop-domain : goal.invariant-loop-domain
invariant-loop-domain l = (l.count ≤ l.domain-index) × (l.count ≡ length (honest (take l.domain-index l.domains)))
