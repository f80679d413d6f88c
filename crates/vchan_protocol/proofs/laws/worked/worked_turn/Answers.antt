use Rattle.vchan_protocol.proofs.Rows.WorkedMore.{worked_turn}
use Rattle.vchan_protocol.proofs.laws.worked.worked_turn.Goals as goal

pub returns : goal.returns
returns c = worked_turn
