use Rattle.vchan_protocol.proofs.OneEnd.OneEndSteps.{steps_keep}
use Rattle.vchan_protocol.proofs.laws.one_end.each_step_keeps.Goals as goal

pub returns : goal.returns
returns c = steps_keep
