use Rattle.vchan_protocol.specs.History.Core.{opened}
use Rattle.vchan_protocol.proofs.Honest.LawfulSteps.{lawful_opened}
use Rattle.vchan_protocol.proofs.Lists.ListWhole.{tells_lists, all_follow_lists}
use Rattle.vchan_protocol.proofs.laws.lists.calls_from_the_opening_follow_lists.Goals as goal

pub returns : goal.returns
returns c = λ orders start said state calls low left right open_or_fresh may.
    all_follow_lists (opened orders start said state) calls (tells_lists (opened orders start said state) (lawful_opened orders start said state low left right open_or_fresh)) may
