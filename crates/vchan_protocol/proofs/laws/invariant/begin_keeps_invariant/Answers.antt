use Rattle.vchan_protocol.proofs.Always.InvariantSteps.{invariant_begun}
use Rattle.vchan_protocol.proofs.laws.invariant.begin_keeps_invariant.Goals as goal

pub returns : goal.returns
returns c = invariant_begun
