use Rattle.std.proofs.Common.{◌≡◌, ◌++◌}
use Rattle.std.specs.List.{flat_map}
use Rattle.task_duties.specs.Places.{numbers}
use Rattle.run_laws.specs.Laid.{laid_between}
use Rattle.run_pages.proofs.places.push_from.Given as goal

abbrev pub invariant-loop-place : goal.invariant-loop-place
invariant-loop-place l = l.places.items ≡ l.initial.places.items ++ flat_map (laid_between l.scenario l.from) (numbers 1 1 l.place)
