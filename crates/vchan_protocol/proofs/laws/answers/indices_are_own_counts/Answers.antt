use Rattle.vchan_protocol.proofs.OneEnd.IndexLaws.{keeps_indices}
use Rattle.vchan_protocol.proofs.laws.answers.indices_are_own_counts.Goals as goal

pub returns : goal.returns
returns c = keeps_indices
