use Rattle.run_laws.proofs.laws.control_bytes.Goals as goal
use Rattle.run_laws.proofs.Domains.ControlLaws.{control_bytes}

pub returns : goal.returns
returns c = control_bytes
