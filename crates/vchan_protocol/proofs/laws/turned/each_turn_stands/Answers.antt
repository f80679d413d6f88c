use Rattle.vchan_protocol.proofs.OneEnd.OneEndSteps.{turn_stands}
use Rattle.vchan_protocol.proofs.laws.turned.each_turn_stands.Goals as goal

pub returns : goal.returns
returns c = turn_stands
