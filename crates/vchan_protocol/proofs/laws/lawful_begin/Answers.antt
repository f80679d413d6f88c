use Rattle.vchan_protocol.proofs.Honest.LawfulSteps.{lawful_begun}
use Rattle.vchan_protocol.proofs.laws.lawful_begin.Goals as goal

pub returns : goal.returns
returns c core who call payload lawful honest may = lawful_begun core who call payload lawful may
