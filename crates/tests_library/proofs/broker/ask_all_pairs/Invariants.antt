use Rattle.std.proofs.Common.{◌≡◌}
use Rattle.call_broker.specs.Domains.{count_of}
use Rattle.tests_library.proofs.broker.ask_all_pairs.Given as goal

abbrev pub invariant-loop-from : goal.invariant-loop-from
invariant-loop-from g l = count_of l.broker.hub ≡ 32

abbrev pub invariant-loop-to : goal.invariant-loop-to
invariant-loop-to g l = count_of l.broker.hub ≡ 32
