use Rattle.vchan_protocol.proofs.Honest.GoneWords.{gone_set}
use Rattle.vchan_protocol.proofs.laws.invariant.gone_is_set_once.Goals as goal

pub returns : goal.returns
returns c core who whose kept honest more = gone_set core who whose (kept.lawful honest) more
