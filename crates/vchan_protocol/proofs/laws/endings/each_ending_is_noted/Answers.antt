use Rattle.vchan_protocol.proofs.OneEnd.SideSteps.{each_ending}
use Rattle.vchan_protocol.proofs.laws.endings.each_ending_is_noted.Goals as goal

pub returns : goal.returns
returns c = each_ending
