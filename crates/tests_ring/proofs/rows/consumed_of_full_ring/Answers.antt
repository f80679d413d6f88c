use Rattle.std.proofs.Common.{rules}
use Rattle.tests_ring.proofs.rows.consumed_of_full_ring.Goals as goal

pub returns : goal.returns
returns c = (c.two_consumed.ensures, (search rules, search rules, search rules, search rules))
