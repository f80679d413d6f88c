use Rattle.vchan_protocol.proofs.OneEnd.EndingSteps.{step_keeps_notes}
use Rattle.vchan_protocol.proofs.laws.endings.step_keeps_notes.Goals as goal

pub returns : goal.returns
returns c = step_keeps_notes
