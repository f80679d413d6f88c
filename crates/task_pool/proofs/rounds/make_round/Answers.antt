use Rattle.std.proofs.Common.{arith, add-one}
use Rattle.task_pool.proofs.RoundLaws.{on_more, on_all}
use Rattle.task_pool.proofs.rounds.make_round.Goals as goal

pub loop-place-preserved : goal.loop-place-preserved
loop-place-preserved g c =
    rw (add-one c.loop-place.place)
    (on_more g.T.PoolTask.owes g.T.PoolTask.turns c.loop-place.place c.args.seats.now c.loop-place.seats _ c.turn.new.self c.loop-place.invariant (let lt = c.loop-place-test.true in let same = c.loop-place.auto.seats in omega arith) c.turn.ensures)

pub returns : goal.returns
returns g c = on_all g.T.PoolTask.owes g.T.PoolTask.turns c.loop-place.place c.args.seats.now c.loop-place.seats c.loop-place.invariant
    (let more = c.loop-place-test.false in let end = c.loop-place.auto.place-end in let same = c.loop-place.auto.seats in omega arith)
