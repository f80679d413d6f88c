use Rattle.std.proofs.Common.{◌≡◌, map, take}
use Rattle.scenario_file.specs.Generator.{generated_domain, generated_names}
use Rattle.scenario_file.proofs.generator.generated_domains.Given as goal

abbrev pub invariant-loop-place : goal.invariant-loop-place
invariant-loop-place l = l.domains.items ≡ map generated_domain (take l.place generated_names)
