use Rattle.std.proofs.Common.{◌≡◌}
use Rattle.std.specs.Vec.Iter.{into_iter_items}
use Rattle.crossbeam_queue.specs.Passes.{view, IsPassOf}
use Rattle.task_pool.specs.Holding.{joined}
use Rattle.task_pool.proofs.Settling.{Settling}
use Rattle.task_pool.proofs.account.Account.take_back.Given as goal

-- some of the places that came back are settled, and the others go with the results that are left
abbrev pub invariant-loop-result : goal.invariant-loop-result
invariant-loop-result g l =
    let before = view l.fn.self.pass in
    let theirs = view l.fn.worker.pass in
    record {
      can_next : (goal.iterator-loop-result g).can_next l.result-iterator;
      is_finite : (goal.iterator-loop-result g).is_finite l.result-iterator;
      pass : IsPassOf l.queue l.self.pass;
      view : view l.self.pass ≡ joined before theirs;
      settling : Settling g.T.PoolTask.owes before.enqueued before.kept theirs.kept (into_iter_items l.result-iterator) l.self.answers.items;
    }
