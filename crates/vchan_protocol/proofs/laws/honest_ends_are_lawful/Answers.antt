use Rattle.vchan_protocol.proofs.History.WholeCallSteps.{reached_lawful}
use Rattle.vchan_protocol.proofs.laws.honest_ends_are_lawful.Goals as goal

pub returns : goal.returns
returns c = reached_lawful
