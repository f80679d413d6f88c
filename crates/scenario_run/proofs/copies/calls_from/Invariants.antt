use Rattle.std.proofs.Common.{◌≡◌, take}
use Rattle.std.specs.Prelude.{◌==◌, filter}
use Rattle.scenario_run.proofs.copies.calls_from.Given as goal

abbrev pub invariant-loop-call : goal.invariant-loop-call
invariant-loop-call l = l.own.items ≡ filter (λ call. call.from == l.from) (take l.call-index l.scenario.calls)
