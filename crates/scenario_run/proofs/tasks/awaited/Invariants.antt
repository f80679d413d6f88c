use Rattle.std.proofs.Common.{◌≡◌, map}
use Rattle.task_duties.specs.Places.{numbers}
use Rattle.scenario_run.specs.Tasks.{awaited_from}
use Rattle.scenario_run.proofs.tasks.awaited.Given as goal

abbrev pub invariant-loop-index : goal.invariant-loop-index
invariant-loop-index l = l.counts.items ≡ map (awaited_from l.scenario) (numbers 1 1 l.index)
