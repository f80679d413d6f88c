use Rattle.std.proofs.Common.{◌≡◌, ◌≤◌, ◌+◌, true, length}
use Rattle.std.specs.Prelude.{vec_capacity}
use Rattle.std.specs.Vec.Iter.{into_iter_items}
use Rattle.std.specs.List.{AllByRecursion as Each}
use Rattle.vchan_rule.specs.Seated.{view}
use Rattle.task_duties.specs.TaskOwes.{all_ends}
use Rattle.task_duties.specs.GivenEnds.{all_given, fresh_view}
use Rattle.scenario_run.proofs.UnmadeLaws.{IsGivingBack}
use Rattle.scenario_run.proofs.unmade.retire_hand.Given as goal

abbrev pub invariant-loop-given : goal.invariant-loop-given
invariant-loop-given l = record {
  idle : Each (λ x. (fresh_view x.end).idle ≡ true) (into_iter_items l.given-iterator);
  room : length l.retired.items + length (into_iter_items l.given-iterator) ≤ vec_capacity l.retired;
  giving : IsGivingBack (all_ends l.domain (view l.fn.control) (all_given l.fn.payload.items)) (all_given (into_iter_items l.given-iterator)) l.retired.items;
}
