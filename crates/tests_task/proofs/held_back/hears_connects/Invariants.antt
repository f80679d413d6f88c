use Rattle.vchan_rule.specs.Seated.{IsOpen}
use Rattle.tests_task.proofs.held_back.hears_connects.Given as goal

abbrev pub invariant-connects : goal.invariant-connects
invariant-connects l = IsOpen l.caller.end
