use Rattle.std.proofs.Common.{◌∙◌, ap, subst}
use Rattle.crossbeam_queue.specs.Passes.{view}
use Rattle.task_pool.specs.Results.{IsPaid}
use Rattle.task_pool.proofs.Settling.{settled_more}
use Rattle.task_pool.proofs.account.Account.finish.Goals as goal

pub loop-preserved : goal.loop-preserved
loop-preserved g c =
    let owes = g.T.PoolTask.owes in
    let enqueued = (view c.args.self.now.pass).enqueued in
    let known = c.loop.invariant in
    let ends = c.in-Over.ensures.tried.0 in
    let paid = subst (λ l. IsPaid owes l (c.in-Over.finished.place, ends.first) c.in-Over.finished) known.enqueued ends.paid in
    record {
      can_next = tt;
      is_finite = tt;
      pass = c.in-Over.ensures.pass;
      all = ap (λ v. v.parts) ends.keeps ∙ known.all;
      enqueued = ap (λ v. v.enqueued) ends.keeps ∙ known.enqueued;
      settled = rw (c.write_down.ensures, ap (λ v. v.kept) ends.keeps)
          (settled_more owes enqueued (view c.loop.self.pass).kept c.loop.self.answers.items (c.in-Over.finished.place, ends.first) c.in-Over.finished known.settled paid);
    }
