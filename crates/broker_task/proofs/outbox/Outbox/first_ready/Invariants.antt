use Rattle.std.proofs.Common.{take}
use Rattle.broker_task.specs.Letters.{AreHeld}
use Rattle.broker_task.proofs.outbox.Outbox.first_ready.Given as goal

abbrev pub invariant-loop-at : goal.invariant-loop-at
invariant-loop-at l = AreHeld (take l.at l.self.letters.items)
