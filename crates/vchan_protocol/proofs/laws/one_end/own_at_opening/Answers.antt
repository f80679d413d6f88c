use Rattle.vchan_protocol.proofs.OneEnd.OneEndLaws.{own_opened}
use Rattle.vchan_protocol.proofs.laws.one_end.own_at_opening.Goals as goal

pub returns : goal.returns
returns c = own_opened
