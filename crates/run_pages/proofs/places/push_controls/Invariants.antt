use Rattle.std.proofs.Common.{◌≡◌, ◌++◌, map}
use Rattle.task_duties.specs.declared.place.PagePlace.TheVariants.{Control}
use Rattle.task_duties.specs.Places.{numbers}
use Rattle.run_pages.proofs.places.push_controls.Given as goal

abbrev pub invariant-loop-place : goal.invariant-loop-place
invariant-loop-place l = l.places.items ≡ l.initial.places.items ++ map Control (numbers 1 1 l.place)
