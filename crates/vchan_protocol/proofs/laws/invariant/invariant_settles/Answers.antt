use Rattle.vchan_protocol.proofs.Always.InvariantSteps.{page_settles}
use Rattle.vchan_protocol.proofs.laws.invariant.invariant_settles.Goals as goal

pub returns : goal.returns
returns c = page_settles
