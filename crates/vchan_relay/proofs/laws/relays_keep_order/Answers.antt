use Rattle.vchan_relay.proofs.HopLaws.{keep_order}
use Rattle.vchan_relay.proofs.laws.relays_keep_order.Goals as goal

pub returns : goal.returns
returns c = keep_order
