use Rattle.vchan_protocol.proofs.OneEnd.EndingSteps.{answer_noted}
use Rattle.vchan_protocol.proofs.laws.endings.answer_is_noted.Goals as goal

pub returns : goal.returns
returns c = answer_noted
