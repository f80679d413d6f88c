use Rattle.vchan_persist.proofs.EpochLaws.{epochs_apart}
use Rattle.vchan_persist.proofs.laws.epochs_apart.Goals as goal

pub returns : goal.returns
returns c = epochs_apart
