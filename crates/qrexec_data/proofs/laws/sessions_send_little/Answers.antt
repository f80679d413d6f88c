use Rattle.qrexec_data.proofs.laws.sessions_send_little.Goals as goal
use Rattle.qrexec_data.proofs.AmountLaws.{sessions_send_little_lem}

pub returns : goal.returns
returns c = sessions_send_little_lem
