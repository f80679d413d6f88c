use Rattle.call_broker.proofs.Rows.{rows_are_as_worked}
use Rattle.call_broker.proofs.laws.worked_rows.Goals as goal

pub returns : goal.returns
returns c = rows_are_as_worked
