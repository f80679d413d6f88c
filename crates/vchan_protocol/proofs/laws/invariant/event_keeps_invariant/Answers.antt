use Rattle.vchan_protocol.proofs.Always.InvariantSteps.{invariant_event}
use Rattle.vchan_protocol.proofs.laws.invariant.event_keeps_invariant.Goals as goal

pub returns : goal.returns
returns c = invariant_event
