use Rattle.std.proofs.Common.{◌≡◌, ◌++◌, map}
use Rattle.call_broker.specs.Domains.{first_port}
use Rattle.task_duties.specs.declared.place.PagePlace.TheVariants.{Payload}
use Rattle.task_duties.specs.Places.{numbers}
use Rattle.run_pages.proofs.places.push_between.Given as goal

abbrev pub invariant-loop-call : goal.invariant-loop-call
invariant-loop-call l = l.places.items ≡ l.initial.places.items ++ map (Payload l.from l.to) (numbers (first_port l.from l.to) 2 l.call)
