use Rattle.qrexec_data.proofs.MaySendLaws.{serving_sent_all}
use Rattle.qrexec_data.proofs.laws.done_sends_all.Goals as goal

pub returns : goal.returns
returns g c = serving_sent_all
