use Rattle.run_laws.proofs.laws.runs_are_there.Goals as goal
use Rattle.run_laws.proofs.Runs.EachRun.{runs_are_there}

pub returns : goal.returns
returns c = runs_are_there
