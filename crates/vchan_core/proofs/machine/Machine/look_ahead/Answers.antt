use Rattle.vchan_core.specs.OneMachine.Phases.{at_phase}
use Rattle.vchan_core.proofs.WholeCall.LookLaws.{makes_all}
use Rattle.vchan_core.proofs.machine.Machine.look_ahead.Goals as goal

pub returns-clause-events : goal.returns-clause-events
returns-clause-events c = λ payload buffer.
    let m = c.args.self.now in
    let list = c.args.words.now.list in
    makes_all c.look_live-live.result.0 c.look_index-index.result.0 m.orders payload (at_phase m c.args.phase) list buffer (at_phase m c.look_live-live.result.1) list buffer (at_phase m c.look_index-index.result.1) list buffer
    (c.look_live-live.ensures.events payload buffer) (c.look_index-index.ensures.events payload buffer)
