use Rattle.call_broker.proofs.PortLaws.{port_names_pair_lem}
use Rattle.call_broker.proofs.laws.port_names_pair.Goals as goal

pub returns : goal.returns
returns c = port_names_pair_lem
