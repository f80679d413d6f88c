use Rattle.qrexec_data.proofs.MaySendLaws.{caller_may_send}
use Rattle.qrexec_data.proofs.laws.callers_send_streams.Goals as goal

pub returns : goal.returns
returns c = caller_may_send
