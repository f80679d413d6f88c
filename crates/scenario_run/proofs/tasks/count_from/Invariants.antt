use Rattle.std.proofs.Common.{◌≡◌, ◌≤◌, length, take}
use Rattle.std.specs.Prelude.{◌==◌, filter}
use Rattle.scenario_run.proofs.tasks.count_from.Given as goal

abbrev pub invariant-loop-call : goal.invariant-loop-call
invariant-loop-call l = record {
  counted : l.count ≡ length (filter (λ call. call.from == l.from) (take l.call-index l.scenario.calls));
  few : l.count ≤ l.call-index;
}
