use Rattle.call_broker.proofs.Decided.{accepted_calls_are_well_lem}
use Rattle.call_broker.proofs.laws.accepted_calls_are_well.Goals as goal

pub returns : goal.returns
returns c = accepted_calls_are_well_lem
