use Rattle.run_laws.proofs.laws.control_ends.Goals as goal
use Rattle.run_laws.proofs.Domains.ControlLaws.{control_ends}

pub returns : goal.returns
returns c = control_ends
