use Rattle.vchan_protocol.proofs.OneEnd.SideSteps.{each_store}
use Rattle.vchan_protocol.proofs.laws.endings.each_store_takes_nothing.Goals as goal

pub returns : goal.returns
returns c = each_store
