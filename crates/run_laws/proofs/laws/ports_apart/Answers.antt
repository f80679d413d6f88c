use Rattle.run_laws.proofs.laws.ports_apart.Goals as goal
use Rattle.run_laws.proofs.Domains.PortsLaw.{ports_apart}

pub returns : goal.returns
returns c = ports_apart
