use Rattle.vchan_protocol.proofs.Always.InvariantSteps.{each_has_invariant}
use Rattle.vchan_protocol.proofs.laws.invariant.each_has_invariant.Goals as goal

pub returns : goal.returns
returns c = each_has_invariant
