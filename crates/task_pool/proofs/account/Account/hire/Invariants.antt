use Rattle.std.proofs.Common.{◌≡◌, ◌+◌, ◌-◌, ◌≤◌, length, vec_len, vec_capacity}
use Rattle.std.specs.List.{AllByRecursion}
use Rattle.crossbeam_queue.specs.Passes.{view, IsPassOf}
use Rattle.task_pool.specs.Holding.{all_parts}
use Rattle.task_pool.specs.Results.{Keeps}
use Rattle.task_pool.proofs.account.Account.hire.Given as goal

abbrev pub invariant-loop-worker : goal.invariant-loop-worker
invariant-loop-worker g l =
    let before = view l.fn.self.pass in
    record {
      pass : IsPassOf l.queue l.self.pass;
      seen : view l.self.pass ≡ record before { parts = all_parts - l._worker };
      count : vec_len l.hired ≡ l._worker;
      room : vec_len l.hired + (l.workers - l._worker) ≤ vec_capacity l.hired;
      answers : l.self.answers ≡ l.fn.self.answers;
      hired : AllByRecursion (λ w. IsPassOf l.queue w.pass × Keeps g.T.PoolTask.owes before.enqueued w.finished.items (view w.pass) × (length before.enqueued ≤ vec_capacity w.finished)) l.hired.items;
    }
