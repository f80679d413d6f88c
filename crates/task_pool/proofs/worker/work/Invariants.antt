use Rattle.std.proofs.Common.{◌≤◌, length, vec_capacity}
use Rattle.crossbeam_queue.specs.Passes.{view, IsPassOf}
use Rattle.task_pool.specs.Results.{Keeps}
use Rattle.task_pool.proofs.worker.work.Given as goal

abbrev pub invariant-loop : goal.invariant-loop
invariant-loop g l = record {
  can_next : (goal.iterator-loop g).can_next l.iterator';
  is_finite : (goal.iterator-loop g).is_finite l.iterator';
  pass : IsPassOf l.queue l.pass;
  keeps : Keeps g.T.PoolTask.owes (view l.fn.worker.pass).enqueued l.finished.items (view l.pass);
  room : length (view l.fn.worker.pass).enqueued ≤ vec_capacity l.finished;
}
