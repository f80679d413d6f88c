use Rattle.vchan_protocol.proofs.OneEnd.OneCallWay.{over_tells}
use Rattle.vchan_protocol.proofs.laws.one_call.each_over_tells.Goals as goal

pub returns : goal.returns
returns c = over_tells
