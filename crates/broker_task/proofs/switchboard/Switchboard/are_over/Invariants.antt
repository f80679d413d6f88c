use Rattle.std.proofs.Common.{◌≡◌, ◌+◌}
use Rattle.task_duties.specs.Places.{numbers}
use Rattle.task_duties.specs.Broker.Outbox.{live_calls}
use Rattle.broker_task.proofs.switchboard.Switchboard.are_over.Given as goal

abbrev pub invariant-loop-other : goal.invariant-loop-other
invariant-loop-other l = l.over + live_calls l.self.broker.hub l.self.broker.journal (numbers 1 1 l.other-index) l.daemon.domain ≡ l.daemon.answered
