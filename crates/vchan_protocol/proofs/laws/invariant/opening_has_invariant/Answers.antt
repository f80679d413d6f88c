use Rattle.vchan_protocol.proofs.Always.InvariantSteps.{invariant_opened}
use Rattle.vchan_protocol.proofs.laws.invariant.opening_has_invariant.Goals as goal

pub returns : goal.returns
returns c = invariant_opened
