use Rattle.std.proofs.Common.{ℕ, ◌+◌, ◌<◌, length}
use Rattle.broker_task.specs.declared.daemon.Daemon.{Daemon}
use Rattle.broker_task.specs.Letters.{IsAt}
use Rattle.broker_task.specs.Rounds.{IsSettled}
use Rattle.broker_task.proofs.switchboard.Switchboard.is_settled.Given as goal

abbrev pub invariant-loop-daemon : goal.invariant-loop-daemon
invariant-loop-daemon l = (i : ℕ) (x : Daemon) → i < l.daemon-index → IsAt l.self.daemons.items i x → IsSettled l.self.broker.hub l.self.broker.journal (length l.self.daemons.items) (i + 1) x
