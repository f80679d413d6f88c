use Rattle.vchan_protocol.proofs.Honest.GoneWords.{gone_tells_retired}
use Rattle.vchan_protocol.proofs.laws.invariant.gone_tells_retired.Goals as goal

pub returns : goal.returns
returns c core who kept honest = gone_tells_retired core who (kept.lawful honest).lives
