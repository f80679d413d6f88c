use Rattle.vchan_protocol.proofs.OneEnd.OneCallWay.{way_begins}
use Rattle.vchan_protocol.proofs.laws.one_call.way_begins.Goals as goal

pub returns : goal.returns
returns c = way_begins
