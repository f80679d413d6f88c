use Rattle.vchan_protocol.proofs.History.WholeCallSteps.{invariant_called}
use Rattle.vchan_protocol.proofs.laws.invariant.call_keeps_invariant.Goals as goal

pub returns : goal.returns
returns c = invariant_called
