use Rattle.std.proofs.Common.{◌≡◌, ◌-◌}
use Rattle.broker_task.specs.Posting.{EachMoves, SameEnd, IsPosting, IsHearing}
use Rattle.broker_task.proofs.HearingSteps.{left_in}
use Rattle.broker_task.specs.Holding.{lines_of, HoldsForExecs}
use Rattle.broker_task.specs.Moving.{Steps, Decides}
use Rattle.broker_task.proofs.switchboard.Switchboard.hear.Given as goal

abbrev pub invariant-loop-event : goal.invariant-loop-event
invariant-loop-event l = record {
  hub : l.self.broker.hub ≡ l.fn.self.broker.hub;
  posting : IsPosting l.self.broker.hub l.self.broker.journal l.self.daemons.items;
  hearing : IsHearing l.domain l.self.broker.journal l.self.daemons.items;
  holds : HoldsForExecs (lines_of l.self.daemons.items);
  ends : EachMoves SameEnd l.initial.self.daemons.items l.self.daemons.items;
  steps : EachMoves (Steps l.domain Decides) l.initial.self.daemons.items l.self.daemons.items;
}

abbrev pub decreases-loop-event : goal.decreases-loop-event
decreases-loop-event l = left_in l.self.daemons.items (l.domain - 1)
