use Rattle.vchan_protocol.proofs.Lists.ListWhole.{tells_lists, follows_lists, may_there}
use Rattle.vchan_protocol.proofs.laws.lists.whole_calls_follow_lists.Goals as goal

pub returns : goal.returns
returns c = λ core who call payload lawful may. follows_lists core who call payload (tells_lists core lawful) (may_there core who call payload may)
