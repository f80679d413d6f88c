use Rattle.vchan_protocol.proofs.Honest.LawfulSteps.{lawful_opened}
use Rattle.vchan_protocol.proofs.laws.lawful_opening.Goals as goal

pub returns : goal.returns
returns c = lawful_opened
