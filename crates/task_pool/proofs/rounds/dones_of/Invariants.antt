use Rattle.std.proofs.Common.{◌≡◌, ◌+◌, ◌≤◌, ◌++◌, length, map, vec_len, vec_capacity}
use Rattle.std.specs.List.{AllByRecursion as Each}
use Rattle.std.specs.Vec.Iter.{into_iter_items}
use Rattle.task_pool.specs.Rounds.{IsOver, over}
use Rattle.task_pool.proofs.rounds.dones_of.Given as goal

abbrev pub invariant-loop-seat : goal.invariant-loop-seat
invariant-loop-seat g l = record {
  can_next : (goal.iterator-loop-seat g).can_next l.seat-iterator;
  is_finite : (goal.iterator-loop-seat g).is_finite l.seat-iterator;
  room : vec_len l.dones + length (into_iter_items l.seat-iterator) ≤ vec_capacity l.dones;
  left : Each IsOver (into_iter_items l.seat-iterator);
  gave : map over l.dones.items ++ into_iter_items l.seat-iterator ≡ l.fn.seats.items;
}
