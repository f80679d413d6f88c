use Rattle.std.proofs.Common.{◌+◌, ◌≤◌, length}
use Rattle.std.specs.Prelude.{vec_capacity}
use Rattle.std.specs.Vec.Iter.{into_iter_items}
use Rattle.task_duties.specs.GivenEnds.{all_retired, retired_at}
use Rattle.agent_slots.proofs.FinishLaws.{AreReporting}
use Rattle.agent_slots.proofs.finish.finish_all.Given as goal

abbrev pub invariant-loop-slot : goal.invariant-loop-slot
invariant-loop-slot l = record {
  can_next : (goal.iterator-loop-slot).can_next l.slot-iterator;
  is_finite : (goal.iterator-loop-slot).is_finite l.slot-iterator;
  reporting : AreReporting (retired_at l.fn.first) l.fn.slots.items (into_iter_items l.slot-iterator) (all_retired l.retired.items) l.reports.items;
  room : length l.retired.items + length (into_iter_items l.slot-iterator) ≤ vec_capacity l.retired;
  room_too : length l.reports.items + length (into_iter_items l.slot-iterator) ≤ vec_capacity l.reports;
}
