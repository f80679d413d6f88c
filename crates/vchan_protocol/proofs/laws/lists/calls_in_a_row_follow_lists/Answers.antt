use Rattle.vchan_protocol.proofs.Lists.ListWhole.{tells_lists, all_follow_lists}
use Rattle.vchan_protocol.proofs.laws.lists.calls_in_a_row_follow_lists.Goals as goal

pub returns : goal.returns
returns c = λ core calls lawful may. all_follow_lists core calls (tells_lists core lawful) may
