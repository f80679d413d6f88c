use Rattle.call_broker.proofs.AloneLaws.{each_pair_stands_alone_lem}
use Rattle.call_broker.proofs.laws.each_pair_stands_alone.Goals as goal

pub returns : goal.returns
returns c = each_pair_stands_alone_lem
