use Rattle.vchan_relay.proofs.HopLaws.{pass_all}
use Rattle.vchan_relay.proofs.laws.relays_pass_all.Goals as goal

pub returns : goal.returns
returns c = pass_all
