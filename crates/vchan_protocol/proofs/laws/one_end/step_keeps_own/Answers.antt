use Rattle.vchan_protocol.proofs.OneEnd.OneEndLaws.{own_stepped}
use Rattle.vchan_protocol.proofs.laws.one_end.step_keeps_own.Goals as goal

pub returns : goal.returns
returns c = own_stepped
