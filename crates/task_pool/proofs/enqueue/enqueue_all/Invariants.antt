use Rattle.std.proofs.Common.{◌≡◌, ◌<◌, ◌++◌, length}
use Rattle.std.specs.Vec.Iter.{into_iter_items}
use Rattle.crossbeam_queue.specs.Passes.{view, IsPassOf, ruled_capacity}
use Rattle.task_pool.specs.Holding.{all_parts, unused}
use Rattle.task_pool.proofs.enqueue.enqueue_all.Given as goal

-- the tasks so far were enqueued, at the places below `place`
abbrev pub invariant-loop-task : goal.invariant-loop-task
invariant-loop-task g l = record {
  can_next : (goal.iterator-loop-task g).can_next l.task-iterator;
  is_finite : (goal.iterator-loop-task g).is_finite l.task-iterator;
  pass : IsPassOf l.queue l.pass;
  size : length l.fn.tasks.items < ruled_capacity l.queue;
  view : view l.pass ≡ unused all_parts l.yielded;
  place : l.place ≡ length l.yielded;
  left : l.yielded ++ into_iter_items l.task-iterator ≡ l.fn.tasks.items;
}
