use Rattle.std.proofs.Common.{◌≡◌, ◌≤◌, refl, subst, slice_index}
use Rattle.ring_words.specs.Page.{index_of}
use Rattle.vchan_core.specs.declared.phase.Next.{Next}
use Rattle.vchan_protocol.specs.Table.Ends.{read_size}
use Rattle.vchan_core.specs.OneMachine.Phases.{standing, plan_at, payload_at, buffer_at, payload_next, buffer_next}
use Rattle.vchan_core.proofs.WholeCall.LookLaws.{look_one}
use Rattle.vchan_core.proofs.machine.Machine.seen.Goals as goal

pub returns-in-To-clause-events : goal.returns-in-To-clause-events
returns-in-To-clause-events c = λ word then list payload buffer plan has goes out into.
    let m = c.args.self.now in
    let at = c.args.at in
    look_one m at c.in-To.phase word then list payload buffer plan has
    (subst (λ (x : Next). plan_at (standing m) x ≡ then (slice_index list (index_of m.orders word))) c.in-To.is goes)
    (subst (λ (x : Next). payload_next x ≤ payload_at at) c.in-To.is out)
    (subst (λ (x : Next). buffer_next (read_size (standing m)) x ≤ buffer_at (read_size (standing m)) at) c.in-To.is into)

pub returns-in-Done-clause-events : goal.returns-in-Done-clause-events
returns-in-Done-clause-events c = λ word then list payload buffer plan has goes out into. (refl, refl, refl)
