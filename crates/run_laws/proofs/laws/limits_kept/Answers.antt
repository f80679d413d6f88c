use Rattle.run_laws.proofs.laws.limits_kept.Goals as goal
use Rattle.run_laws.proofs.Domains.LimitsKeptLaw.{limits_kept}

pub returns : goal.returns
returns c = limits_kept
