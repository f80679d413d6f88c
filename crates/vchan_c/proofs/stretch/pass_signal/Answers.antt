use Rattle.std.proofs.Common.{◌≡◌, ap, ◌∙◌, rules}
use Rattle.vchan_protocol.specs.declared.op.Op.{Op}
use Rattle.vchan_protocol.specs.declared.op.Op.TheVariants.{Store}
use Rattle.vchan_protocol.specs.Table.Plan.{next_op}
use Rattle.vchan_protocol.specs.Table.Ends.{standing_after, peer_pending}
use Rattle.vchan_core.specs.OneMachine.Phases.{standing, rest}
use Rattle.vchan_c.proofs.StretchLaws.{signal_stands}
use Rattle.vchan_c.proofs.stretch.pass_signal.Goals as goal

pub returns-in-Store-default-eq1-clause-standing : goal.returns-in-Store-default-eq1-clause-standing
returns-in-Store-default-eq1-clause-standing c =
    let op : next_op (rest c.args.machine.now) ≡ Store (peer_pending c.args.machine.now.role) 1 = search rules in
    c.took.ensures.standing ∙ (ap (λ (o : Op). standing_after (standing c.args.machine.now) o) op ∙ signal_stands (standing c.args.machine.now))
