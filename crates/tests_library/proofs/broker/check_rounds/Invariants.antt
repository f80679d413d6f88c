use Rattle.std.proofs.Common.{◌≡◌}
use Rattle.call_broker.specs.Domains.{count_of}
use Rattle.tests_library.proofs.broker.check_rounds.Given as goal

abbrev pub invariant-loop-round : goal.invariant-loop-round
invariant-loop-round g l = count_of l.broker.hub ≡ 32
