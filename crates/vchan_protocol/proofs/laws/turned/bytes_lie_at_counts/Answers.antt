use Rattle.vchan_protocol.proofs.Hostile.TurnedSteps.{lies_at_count}
use Rattle.vchan_protocol.proofs.laws.turned.bytes_lie_at_counts.Goals as goal

pub returns : goal.returns
returns c = lies_at_count
