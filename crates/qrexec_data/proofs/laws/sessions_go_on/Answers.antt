use Rattle.qrexec_data.proofs.laws.sessions_go_on.Goals as goal
use Rattle.qrexec_data.proofs.GoingLaws.{sessions_go_on_lem}

pub returns : goal.returns
returns g c = sessions_go_on_lem _
