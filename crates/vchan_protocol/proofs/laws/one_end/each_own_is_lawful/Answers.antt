use Rattle.vchan_protocol.proofs.OneEnd.OneEndLaws.{each_own}
use Rattle.vchan_protocol.proofs.laws.one_end.each_own_is_lawful.Goals as goal

pub returns : goal.returns
returns c = each_own
