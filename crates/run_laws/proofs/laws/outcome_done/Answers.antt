use Rattle.run_laws.proofs.laws.outcome_done.Goals as goal
use Rattle.run_laws.proofs.Sessions.ResultLaws.{outcome_done}

pub returns : goal.returns
returns c = outcome_done
