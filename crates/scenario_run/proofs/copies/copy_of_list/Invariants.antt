use Rattle.std.proofs.Common.{◌≡◌, take}
use Rattle.scenario_run.proofs.copies.copy_of_list.Given as goal

abbrev pub invariant-loop-act : goal.invariant-loop-act
invariant-loop-act l = l.copies.items ≡ take l.act-index l.list
