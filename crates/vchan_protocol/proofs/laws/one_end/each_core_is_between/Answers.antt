use Rattle.vchan_protocol.proofs.OneEnd.OneEndSteps.{core_is}
use Rattle.vchan_protocol.proofs.laws.one_end.each_core_is_between.Goals as goal

pub returns : goal.returns
returns c = core_is
