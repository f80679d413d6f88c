use Rattle.std.proofs.Common.{◌+◌, ◌≤◌, length, vec_len, vec_capacity}
use Rattle.std.specs.Vec.Iter.{into_iter_items}
use Rattle.crossbeam_queue.specs.Passes.{view}
use Rattle.task_pool.proofs.Answering.{Answering}
use Rattle.task_pool.proofs.account.Account.into_dones.Given as goal

-- the first tasks have their answers, and the others go with the answers that are left
abbrev pub invariant-loop-answer : goal.invariant-loop-answer
invariant-loop-answer g l = record {
  can_next : (goal.iterator-loop-answer g).can_next l.answer-iterator;
  is_finite : (goal.iterator-loop-answer g).is_finite l.answer-iterator;
  room : vec_len l.dones + length (into_iter_items l.answer-iterator) ≤ vec_capacity l.dones;
  answering : Answering g.T.PoolTask.owes (view l.fn.self.pass).enqueued (into_iter_items l.answer-iterator) l.dones.items;
}
