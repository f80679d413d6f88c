use Rattle.std.proofs.Common.{◌≡◌, map}
use Rattle.std.specs.List.{flat_map}
use Rattle.task_duties.specs.Places.{numbers}
use Rattle.run_laws.specs.Laid.{all_domains, pages_between}
use Rattle.run_pages.proofs.places.page_table.Given as goal

abbrev pub invariant-loop-place : goal.invariant-loop-place
invariant-loop-place l = l.table.items ≡ flat_map (λ from. map (pages_between l.scenario from) (all_domains l.scenario)) (numbers 1 1 l.place)
