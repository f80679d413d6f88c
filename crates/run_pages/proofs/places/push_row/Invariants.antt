use Rattle.std.proofs.Common.{◌≡◌, ◌++◌, map}
use Rattle.task_duties.specs.Places.{numbers}
use Rattle.run_laws.specs.Laid.{pages_between}
use Rattle.run_pages.proofs.places.push_row.Given as goal

abbrev pub invariant-loop-place : goal.invariant-loop-place
invariant-loop-place l = l.table.items ≡ l.initial.table.items ++ map (pages_between l.scenario l.from) (numbers 1 1 l.place)
