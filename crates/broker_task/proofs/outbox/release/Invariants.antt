use Rattle.std.proofs.Common.{◌≡◌}
use Rattle.broker_task.specs.Letters.{released}
use Rattle.broker_task.proofs.Lists.{mapped}
use Rattle.broker_task.proofs.outbox.release.Given as goal

abbrev pub invariant-loop-letter : goal.invariant-loop-letter
invariant-loop-letter l = l.letters ≡ mapped (released l.target l.meant) l.initial.letters l.letter-index
