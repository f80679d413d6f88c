use Rattle.std.proofs.Common.{◌≡◌, ◌<◌, ◌++◌, ◌∷◌, length, ap, sym, ◌∙◌, subst, arith, length-append}
use Rattle.crossbeam_queue.specs.Passes.{view}
use Rattle.task_pool.proofs.Rules.{begins, enqueues, within, never_full}
use Rattle.task_pool.proofs.enqueue.enqueue_all.Goals as goal

pub ruled-requires-clause-rule : goal.ruled-requires-clause-rule
ruled-requires-clause-rule g c = begins g.T.PoolTask.owes

pub push_as-requires-clause-rule : goal.push_as-requires-clause-rule
push_as-requires-clause-rule g c =
    let known = c.loop-task.invariant in
    (enqueues g.T.PoolTask.owes _ _ _ _ (ap (λ v. v.parts) known.view) (known.place ∙ sym (ap (λ v. length v.enqueued) known.view)), within g.T.PoolTask.owes _ _)

pub unreachable-requires : goal.unreachable-requires
unreachable-requires g c =
    let known = c.loop-task.invariant in
    let held = c.in-Err.ensures.rule.2 in
    let split : c.loop-task.yielded ++ (c.in-Some.task ∷ _) ≡ c.args.tasks.items = sym (ap (λ l. c.loop-task.yielded ++ l) c.in-Some.ensures.steps.0) ∙ known.left in
    let short : length c.loop-task.yielded < length c.args.tasks.items = subst (λ l. length c.loop-task.yielded < length l) split (omega (arith, length-append {A = g.row.T.Denot})) in
    let enqueued : length (view c.loop-task.pass).enqueued ≡ length c.loop-task.yielded = ap (λ v. length v.enqueued) known.view in
    never_full (view c.loop-task.pass) held.0 _ (let parts = ap (λ v. v.parts) known.view in omega arith) held.1 held.2 (omega arith)
