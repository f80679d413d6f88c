use Rattle.call_broker.proofs.PortLaws.{ports_apart_lem}
use Rattle.call_broker.proofs.laws.ports_apart.Goals as goal

pub returns : goal.returns
returns c = ports_apart_lem
