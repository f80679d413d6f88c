use Rattle.broker_task.specs.Rounds.{GoesOn}
use Rattle.broker_task.specs.Posting.{EachMoves}
use Rattle.broker_task.proofs.MovingLaws.{TurnsUpTo}
use Rattle.broker_task.proofs.switchboard.Switchboard.round.Given as goal

abbrev pub invariant-loop-at : goal.invariant-loop-at
invariant-loop-at l = record { goes : GoesOn l.initial.self l.self; turns : EachMoves (TurnsUpTo l.at) l.initial.self.daemons.items l.self.daemons.items }
