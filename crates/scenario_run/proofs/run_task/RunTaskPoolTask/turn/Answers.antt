-- Where memory ran out, no task makes a turn.
use Rattle.std.proofs.Common.{inr, refl}
use Rattle.scenario_run.proofs.run_task.RunTaskPoolTask.turn.Goals as goal

pub returns-then-load-clause-turns : goal.returns-then-load-clause-turns
returns-then-load-clause-turns c = inr (c.give_up-ends.result, refl)

pub returns-in-Err-clause-turns : goal.returns-in-Err-clause-turns
returns-in-Err-clause-turns c = inr (c.in-Err.ends, refl)
