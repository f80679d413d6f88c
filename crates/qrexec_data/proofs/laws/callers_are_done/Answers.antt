use Rattle.qrexec_data.proofs.SessionLaws.{callers_are_done}
use Rattle.qrexec_data.proofs.laws.callers_are_done.Goals as goal

pub returns : goal.returns
returns c = callers_are_done
