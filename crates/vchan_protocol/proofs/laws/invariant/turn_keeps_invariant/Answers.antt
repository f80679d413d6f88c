use Rattle.vchan_protocol.proofs.Always.InvariantSteps.{invariant_turned_core}
use Rattle.vchan_protocol.proofs.laws.invariant.turn_keeps_invariant.Goals as goal

pub returns : goal.returns
returns c = invariant_turned_core
