use Rattle.vchan_protocol.proofs.OneEnd.OneEndSteps.{steps_are_own}
use Rattle.vchan_protocol.proofs.laws.one_end.each_step_is_own.Goals as goal

pub returns : goal.returns
returns c = steps_are_own
