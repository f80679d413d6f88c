use Rattle.task_pool.proofs.RoundLaws.{OnFirst}
use Rattle.task_pool.proofs.rounds.make_round.Given as goal

abbrev pub invariant-loop-place : goal.invariant-loop-place
invariant-loop-place g l = OnFirst g.T.PoolTask.owes g.T.PoolTask.turns l.place l.fn.seats l.seats
