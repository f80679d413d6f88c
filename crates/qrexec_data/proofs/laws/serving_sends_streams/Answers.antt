use Rattle.qrexec_data.proofs.MaySendLaws.{serving_may_send}
use Rattle.qrexec_data.proofs.laws.serving_sends_streams.Goals as goal

pub returns : goal.returns
returns g c = serving_may_send
