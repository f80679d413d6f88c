use Rattle.vchan_protocol.proofs.Always.InvariantSteps.{invariant_strayed}
use Rattle.vchan_protocol.proofs.laws.invariant.stray_keeps_invariant.Goals as goal

pub returns : goal.returns
returns c = invariant_strayed
