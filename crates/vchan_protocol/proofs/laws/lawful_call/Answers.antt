use Rattle.vchan_protocol.proofs.History.WholeCallSteps.{lawful_called}
use Rattle.vchan_protocol.proofs.laws.lawful_call.Goals as goal

pub returns : goal.returns
returns c core who call payload lawful honest may = lawful_called core who call payload lawful may
