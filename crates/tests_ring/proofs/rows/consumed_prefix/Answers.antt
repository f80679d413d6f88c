use Rattle.std.proofs.Common.{rules}
use Rattle.tests_ring.proofs.rows.consumed_prefix.Goals as goal

pub returns : goal.returns
returns c = (search rules, search rules)
