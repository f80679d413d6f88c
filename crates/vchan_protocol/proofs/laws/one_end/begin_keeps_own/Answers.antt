use Rattle.vchan_protocol.proofs.OneEnd.OneEndLaws.{own_begun}
use Rattle.vchan_protocol.proofs.laws.one_end.begin_keeps_own.Goals as goal

pub returns : goal.returns
returns c = own_begun
