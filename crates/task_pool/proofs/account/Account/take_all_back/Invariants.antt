use Rattle.std.proofs.Common.{◌≡◌, ◌<◌, ◌+◌, length}
use Rattle.std.specs.List.{AllByRecursion}
use Rattle.std.specs.Vec.Iter.{into_iter_items}
use Rattle.crossbeam_queue.specs.Passes.{view, IsPassOf}
use Rattle.task_pool.specs.Results.{Keeps, Settled}
use Rattle.task_pool.proofs.account.Account.take_all_back.Given as goal

abbrev pub invariant-loop-worker : goal.invariant-loop-worker
invariant-loop-worker g l =
    let before = view l.fn.self.pass in
    record {
      can_next : (goal.iterator-loop-worker g).can_next l.worker-iterator;
      is_finite : (goal.iterator-loop-worker g).is_finite l.worker-iterator;
      pass : IsPassOf l.queue l.self.pass;
      part : 0 < (view l.self.pass).parts;
      parts : (view l.self.pass).parts + length (into_iter_items l.worker-iterator) ≡ before.parts + length l.fn.workers.items;
      enqueued : (view l.self.pass).enqueued ≡ before.enqueued;
      settled : Settled g.T.PoolTask.owes before.enqueued (view l.self.pass).kept l.self.answers.items;
      back : AllByRecursion (λ w. IsPassOf l.queue w.pass × Keeps g.T.PoolTask.owes before.enqueued w.finished.items (view w.pass)) (into_iter_items l.worker-iterator);
    }
