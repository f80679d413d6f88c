use Rattle.std.proofs.Common.{vec_len, ◌≡◌}
use Rattle.std.specs.List.{AllZip}
use Rattle.task_pool.specs.Rounds.{StandsAfter}
use Rattle.task_pool.proofs.rounds.run_rounds.Given as goal

abbrev pub invariant-loop-round : goal.invariant-loop-round
invariant-loop-round g l = record {
  count : vec_len l.seats ≡ vec_len l.fn.tasks;
  stands : AllZip (StandsAfter g.T.PoolTask.owes g.T.PoolTask.turns l._round) l.fn.tasks.items l.seats.items;
}
