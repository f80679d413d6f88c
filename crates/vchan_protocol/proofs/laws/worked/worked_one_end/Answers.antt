use Rattle.vchan_protocol.proofs.Rows.WorkedOneEnd.{worked_one_end}
use Rattle.vchan_protocol.proofs.laws.worked.worked_one_end.Goals as goal

pub returns : goal.returns
returns c = worked_one_end
