use Rattle.std.proofs.Common.{◌≡◌, ◌-◌}
use Rattle.broker_task.specs.Lines.{IsSameDaemon}
use Rattle.broker_task.specs.Posting.{EachMoves, IsSending, waiting_in}
use Rattle.broker_task.specs.Holding.{lines_of, HoldsForExecs}
use Rattle.broker_task.specs.Moving.{Steps, SendsSoFar}
use Rattle.broker_task.proofs.switchboard.Switchboard.send.Given as goal

abbrev pub invariant-letters : goal.invariant-letters
invariant-letters l = record {
  broker : l.self.broker ≡ l.initial.self.broker;
  sending : IsSending l.self.broker.hub l.domain l.self.broker.journal l.self.daemons.items;
  holds : HoldsForExecs (lines_of l.self.daemons.items);
  same : EachMoves (λ d. IsSameDaemon) l.initial.self.daemons.items l.self.daemons.items;
  steps : EachMoves (Steps l.domain SendsSoFar) l.initial.self.daemons.items l.self.daemons.items;
}

abbrev pub decreases-letters : goal.decreases-letters
decreases-letters l = waiting_in l.self.daemons.items (l.domain - 1)
