use Rattle.run_laws.proofs.laws.served_all.Goals as goal
use Rattle.run_laws.proofs.Sessions.ServedAllLaw.{served_all}

pub returns : goal.returns
returns c = served_all
