use Rattle.vchan_block.proofs.WaitLaws.{misses_nothing}
use Rattle.vchan_block.proofs.laws.round_misses_nothing.Goals as goal

pub returns : goal.returns
returns c = misses_nothing
