use Rattle.vchan_protocol.proofs.Table.Counted.{counts_within}
use Rattle.vchan_protocol.proofs.laws.each_call_moves_at_most.Goals as goal

pub returns : goal.returns
returns c = counts_within
