use Rattle.vchan_protocol.proofs.Table.Bounds.{ends_call}
use Rattle.vchan_protocol.proofs.laws.each_call_ends.Goals as goal

pub returns : goal.returns
returns c = ends_call
