use Rattle.std.proofs.Common.{◌≡◌}
use Rattle.task_pool.specs.Holding.{all_parts}
use Rattle.crossbeam_queue.specs.Passes.{view, IsPassOf}
use Rattle.task_pool.specs.Results.{Settled}
use Rattle.task_pool.proofs.account.Account.finish.Given as goal

abbrev pub invariant-loop : goal.invariant-loop
invariant-loop g l = record {
  can_next : (goal.iterator-loop g).can_next l.iterator';
  is_finite : (goal.iterator-loop g).is_finite l.iterator';
  pass : IsPassOf l.queue l.self.pass;
  all : (view l.self.pass).parts ≡ all_parts;
  enqueued : (view l.self.pass).enqueued ≡ (view l.fn.self.pass).enqueued;
  settled : Settled g.T.PoolTask.owes (view l.fn.self.pass).enqueued (view l.self.pass).kept l.self.answers.items;
}
