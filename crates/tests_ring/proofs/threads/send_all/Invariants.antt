use Rattle.std.proofs.Common.{◌≤◌, ◌<◌, length}
use Rattle.vchan_rule.specs.Seated.{IsOpen}
use Rattle.vchan_rule.specs.Ends.{IsSameEnd}
use Rattle.tests_ring.proofs.threads.send_all.Given as goal

abbrev pub invariant-pieces : goal.invariant-pieces
invariant-pieces l = IsOpen l.end × IsSameEnd l.initial.end l.end × (l.sent ≤ length l.data) × (l.half < 1000)
