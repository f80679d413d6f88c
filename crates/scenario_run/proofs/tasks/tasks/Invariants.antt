use Rattle.std.proofs.Common.{map}
use Rattle.std.specs.Vec.Iter.{into_iter_items}
use Rattle.vchan_rule.specs.Seated.{view}
use Rattle.scenario_run.proofs.TaskLaws.{AreLeft}
use Rattle.scenario_run.proofs.tasks.tasks.Given as goal

abbrev pub invariant-loop-hand : goal.invariant-loop-hand
invariant-loop-hand l = AreLeft l.scenario (map view l.fn.dealt.controls.items) l.fn.dealt.hands.items l.tasks.items l.number (into_iter_items l.hand-iterator)
