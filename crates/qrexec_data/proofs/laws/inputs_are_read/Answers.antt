use Rattle.qrexec_data.proofs.SessionLaws.{inputs_are_read}
use Rattle.qrexec_data.proofs.laws.inputs_are_read.Goals as goal

pub returns : goal.returns
returns c = inputs_are_read
