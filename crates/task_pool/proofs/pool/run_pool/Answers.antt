use Rattle.std.proofs.Common.{◌≡◌, length, ap, arith}
use Rattle.crossbeam_queue.specs.Passes.{view}
use Rattle.task_pool.proofs.pool.run_pool.Goals as goal

pub employ-requires-clause-queue : goal.employ-requires-clause-queue
employ-requires-clause-queue g c κs within =
    let hired : length (view c.hire.new.self.pass).enqueued ≡ length (view c.in_ok-queue.pass).enqueued = ap length c.in_ok-hired.ensures.rest.0 in
    let room = c.in_ok-queue.ensures.room in
    omega arith

pub finish-requires-clause-queue : goal.finish-requires-clause-queue
finish-requires-clause-queue g c κs within =
    let back : length (view c.take_all_back.new.self.pass).enqueued ≡ length (view c.hire.new.self.pass).enqueued = ap length c.take_all_back.ensures.enqueued in
    let hired : length (view c.hire.new.self.pass).enqueued ≡ length (view c.in_ok-queue.pass).enqueued = ap length c.in_ok-hired.ensures.rest.0 in
    let room = c.in_ok-queue.ensures.room in
    omega arith
