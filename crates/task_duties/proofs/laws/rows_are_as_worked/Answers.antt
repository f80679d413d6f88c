use Rattle.task_duties.proofs.laws.rows_are_as_worked.Goals as goal
use Rattle.task_duties.proofs.Rows.{rows_are_as_worked}

pub returns : goal.returns
returns c = rows_are_as_worked
