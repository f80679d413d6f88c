use Rattle.qrexec_data.proofs.SessionLaws.{greetings_are_no_fault}
use Rattle.qrexec_data.proofs.laws.greetings_are_no_fault.Goals as goal

pub returns : goal.returns
returns c = greetings_are_no_fault
