use Rattle.call_broker.proofs.AloneLaws.{decided_by_own_events_lem}
use Rattle.call_broker.proofs.laws.decided_by_own_events.Goals as goal

pub returns : goal.returns
returns c = decided_by_own_events_lem
