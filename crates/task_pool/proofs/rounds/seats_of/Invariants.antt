use Rattle.std.proofs.Common.{◌≡◌, ◌+◌, ◌≤◌, ◌++◌, length, map, vec_len, vec_capacity}
use Rattle.std.specs.Vec.Iter.{into_iter_items}
use Rattle.task_pool.specs.Rounds.{going}
use Rattle.task_pool.proofs.rounds.seats_of.Given as goal

abbrev pub invariant-loop-task : goal.invariant-loop-task
invariant-loop-task g l = record {
  can_next : (goal.iterator-loop-task g).can_next l.task-iterator;
  is_finite : (goal.iterator-loop-task g).is_finite l.task-iterator;
  room : vec_len l.seats + length (into_iter_items l.task-iterator) ≤ vec_capacity l.seats;
  stood : l.seats.items ++ map going (into_iter_items l.task-iterator) ≡ map going l.fn.tasks.items;
}
