use Rattle.broker_task.specs.Posting.{EachMoves}
use Rattle.broker_task.proofs.RoundSteps.{LetsGoUpTo}
use Rattle.broker_task.proofs.round.release_target.Given as goal

abbrev pub invariant-loop-daemon : goal.invariant-loop-daemon
invariant-loop-daemon l = EachMoves (LetsGoUpTo l.target l.daemon-index) l.initial.daemons l.daemons
