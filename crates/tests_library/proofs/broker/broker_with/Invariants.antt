use Rattle.std.proofs.Common.{◌≡◌, vec_len}
use Rattle.tests_library.proofs.broker.broker_with.Given as goal

abbrev pub invariant-loop-name : goal.invariant-loop-name
invariant-loop-name l = vec_len l.domains ≡ l.name-index
