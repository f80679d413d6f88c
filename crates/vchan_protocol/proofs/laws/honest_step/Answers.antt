use Rattle.vchan_protocol.proofs.Honest.LawfulSteps.{lawful_event}
use Rattle.vchan_protocol.proofs.laws.honest_step.Goals as goal

pub returns : goal.returns
returns c core who lawful honest more = lawful_event core who lawful more
