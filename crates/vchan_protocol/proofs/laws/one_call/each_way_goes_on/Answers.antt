use Rattle.vchan_protocol.proofs.OneEnd.OneCallWay.{way_goes_on}
use Rattle.vchan_protocol.proofs.laws.one_call.each_way_goes_on.Goals as goal

pub returns : goal.returns
returns c = way_goes_on
