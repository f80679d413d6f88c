use Rattle.std.proofs.Common.{◌≡◌, ◌≤◌, ◌+◌, ◌-◌, ◌++◌}
use Rattle.scenario_file.specs.Generator.{generated_calls}
use Rattle.scenario_file.proofs.generator.generated_calls.Given as goal

abbrev pub invariant-loop-number : goal.invariant-loop-number
invariant-loop-number l =
    (l.x ≤ 65536) × (l.calls.items ++ generated_calls (l.number + 1) l.x (l.count - l.number) ≡ generated_calls 1 l.seed l.count)
