use Rattle.std.proofs.Common.{◌≡◌, [], ◌∷◌}
use Rattle.vchan_protocol.specs.Table.Ends.{peer_pending}
use Rattle.task_duties.specs.Hostile.Stores.{stored}
use Rattle.hostile_task.specs.Pages.{after_events}
use Rattle.hostile_task.proofs.ListLaws.{map_first}
use Rattle.hostile_task.proofs.pages.Pages.signal.Given as goal

abbrev pub invariant-loop-payload : goal.invariant-loop-payload
invariant-loop-payload l = l.payload-items ≡ map_first (λ p. after_events p (stored (peer_pending p.end.side.role) 1 ∷ [])) l.payload-index l.initial.payload-items
