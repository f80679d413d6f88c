use Rattle.vchan_protocol.proofs.Rows.WorkedRow.{worked_row}
use Rattle.vchan_protocol.proofs.laws.worked_row.Goals as goal

pub returns : goal.returns
returns c = worked_row
