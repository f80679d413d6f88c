use Rattle.run_laws.proofs.laws.results_are_runs.Goals as goal
use Rattle.run_laws.proofs.Runs.ResultLaws.{results_are_runs}

pub returns : goal.returns
returns c = results_are_runs
