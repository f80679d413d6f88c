use Rattle.qrexec_data.proofs.SessionLaws.{callers_wait}
use Rattle.qrexec_data.proofs.laws.callers_wait.Goals as goal

pub returns : goal.returns
returns c = callers_wait
