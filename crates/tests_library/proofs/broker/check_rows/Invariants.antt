use Rattle.std.proofs.Common.{◌≡◌}
use Rattle.call_broker.specs.Domains.{count_of}
use Rattle.tests_library.proofs.broker.check_rows.Given as goal

abbrev pub invariant-loop-at : goal.invariant-loop-at
invariant-loop-at g l = count_of l.broker.hub ≡ l.domains
