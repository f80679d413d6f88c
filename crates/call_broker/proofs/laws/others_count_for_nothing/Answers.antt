use Rattle.call_broker.proofs.AloneLaws.{others_count_for_nothing_lem}
use Rattle.call_broker.proofs.laws.others_count_for_nothing.Goals as goal

pub returns : goal.returns
returns c = others_count_for_nothing_lem
