use Rattle.std.proofs.Common.{ap, arith}
use Rattle.crossbeam_queue.specs.Passes.{view}
use Rattle.task_pool.proofs.Rules.{forks}
use Rattle.task_pool.proofs.account.Account.hire.Goals as goal

pub another-pass-requires-clause-rule : goal.another-pass-requires-clause-rule
another-pass-requires-clause-rule g c =
    let parts = ap (λ v. v.parts) c.loop-worker.invariant.seen in
    let below = c.loop-worker-test.true in
    let few = c.requires.few in
    forks g.T.PoolTask.owes c.loop-worker.self.pass.id (view c.loop-worker.self.pass) (omega arith)
