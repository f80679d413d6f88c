use Rattle.vchan_protocol.proofs.OneEnd.OneCallBytes.{answers_tell}
use Rattle.vchan_protocol.proofs.laws.one_call.answers_tell_bytes.Goals as goal

pub returns : goal.returns
returns c = answers_tell
