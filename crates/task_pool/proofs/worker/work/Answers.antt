use Rattle.std.proofs.Common.{arith}
use Rattle.crossbeam_queue.specs.Passes.{view}
use Rattle.task_pool.proofs.Keeping.{keeps_more, keeps_room}
use Rattle.task_pool.proofs.worker.work.Goals as goal

pub push_reserved-requires : goal.push_reserved-requires
push_reserved-requires g c =
    let known = c.loop.invariant in
    let short =
    keeps_room g.T.PoolTask.owes (view c.args.worker.pass).enqueued c.loop.finished.items c.in-Over.result (view c.loop.pass) (view c.try_turn.new.pass) known.keeps
    c.in-Over.ensures.tried.0 in
    let ok = c.loop.finished.ok in
    omega arith

pub loop-preserved : goal.loop-preserved
loop-preserved g c =
    let known = c.loop.invariant in
    record {
      can_next = tt;
      is_finite = tt;
      pass = c.in-Over.ensures.pass;
      keeps = rw c.push_reserved.ensures.items
          (keeps_more g.T.PoolTask.owes (view c.args.worker.pass).enqueued c.loop.finished.items c.in-Over.result (view c.loop.pass) (view c.try_turn.new.pass) known.keeps
          c.in-Over.ensures.tried.0);
      room = let same = c.push_reserved.ensures.capacity in omega arith;
    }
