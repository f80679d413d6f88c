use Rattle.std.proofs.Common.{◌≡◌, ◌≤◌, ◌+◌, length, map}
use Rattle.std.specs.Prelude.{vec_capacity}
use Rattle.std.specs.Vec.Iter.{into_iter_items}
use Rattle.std.specs.List.{AllByRecursion as Each}
use Rattle.vchan_rule.specs.Seated.{view}
use Rattle.task_duties.specs.TaskOwes.{broker_ends}
use Rattle.broker_task.specs.Given.{IsNewClient}
use Rattle.scenario_run.proofs.UnmadeLaws.{IsGivingBack}
use Rattle.scenario_run.proofs.unmade.retire_controls.Given as goal

abbrev pub invariant-loop-control : goal.invariant-loop-control
invariant-loop-control l = record {
  unused : Each IsNewClient (into_iter_items l.control-iterator);
  count : l.domain + length (into_iter_items l.control-iterator) ≡ length l.fn.controls.items;
  room : length l.retired.items + length (into_iter_items l.control-iterator) ≤ vec_capacity l.retired;
  giving : IsGivingBack (broker_ends 1 (map view l.fn.controls.items)) (broker_ends (l.domain + 1) (map view (into_iter_items l.control-iterator))) l.retired.items;
}
