use Rattle.run_laws.proofs.laws.sorted_sessions_are_lawful.Goals as goal
use Rattle.run_laws.proofs.Reports.SessionLines.{sorted_sessions_are_lawful}

pub returns : goal.returns
returns c = sorted_sessions_are_lawful
