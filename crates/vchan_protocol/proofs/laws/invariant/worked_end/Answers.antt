use Rattle.vchan_protocol.proofs.Rows.WorkedEnd.{worked_end}
use Rattle.vchan_protocol.proofs.laws.invariant.worked_end.Goals as goal

pub returns : goal.returns
returns c = worked_end
