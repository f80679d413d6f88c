use Rattle.run_laws.proofs.laws.result_equal.Goals as goal
use Rattle.run_laws.proofs.Sessions.ResultLaws.{result_equal}

pub returns : goal.returns
returns c = result_equal
