use Rattle.vchan_protocol.proofs.Always.InvariantSteps.{retires_once}
use Rattle.vchan_protocol.proofs.laws.invariant.each_retires_once.Goals as goal

pub returns : goal.returns
returns c = retires_once
