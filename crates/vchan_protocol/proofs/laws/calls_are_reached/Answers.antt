use Rattle.vchan_protocol.proofs.History.WholeCallSteps.{reached_called}
use Rattle.vchan_protocol.proofs.laws.calls_are_reached.Goals as goal

pub returns : goal.returns
returns c = reached_called
