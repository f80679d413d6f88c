use Rattle.std.proofs.Common.{◌≡◌, []}
use Rattle.task_duties.specs.Hostile.Stores.{poked}
use Rattle.hostile_task.specs.Plan.{plan_of}
use Rattle.hostile_task.specs.Pages.{after_events}
use Rattle.hostile_task.proofs.ListLaws.{map_first}
use Rattle.hostile_task.proofs.pages.Pages.poke.Given as goal

abbrev pub invariant-loop-payload : goal.invariant-loop-payload
invariant-loop-payload l = l.payload-items ≡ map_first (λ p. after_events p (poked (plan_of l.domain []) p.place l.page l.word l.value)) l.payload-index l.initial.payload-items
