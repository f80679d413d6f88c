use Rattle.std.proofs.Common.{arith}
use Rattle.vchan_protocol.proofs.Always.InvariantSteps.{invariant_opened}
use Rattle.vchan_core.proofs.plain.Plain.open.Goals as goal

pub returns-clause-invariant : goal.returns-clause-invariant
returns-clause-invariant c = invariant_opened c.args.orders c.args.start c.args.said c.args.state (omega arith) (omega arith) (omega arith) c.requires
