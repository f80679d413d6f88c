use Rattle.std.proofs.Common.{◌≡◌, ◌++◌, map}
use Rattle.std.specs.List.{flat_map}
use Rattle.task_duties.specs.declared.place.PagePlace.TheVariants.{Control}
use Rattle.task_duties.specs.Places.{numbers}
use Rattle.run_laws.specs.Laid.{all_domains, laid_between}
use Rattle.run_pages.proofs.places.places.Given as goal

abbrev pub invariant-loop-place : goal.invariant-loop-place
invariant-loop-place l = l.places.items ≡ map Control (all_domains l.scenario) ++ flat_map (λ from. flat_map (laid_between l.scenario from) (all_domains l.scenario)) (numbers 1 1 l.place)
