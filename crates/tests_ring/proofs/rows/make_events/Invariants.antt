use Rattle.std.proofs.Common.{◌≡◌, length}
use Rattle.vchan_rule.specs.Ends.{IsSameEnd}
use Rattle.tests_ring.specs.Rows.{IsUnderWay}
use Rattle.tests_ring.proofs.rows.make_events.Given as goal

abbrev pub invariant-events : goal.invariant-events
invariant-events l = IsSameEnd l.initial.end l.end × (l.end.side.sent ≡ l.initial.end.side.sent) × (length l.buf ≡ length l.initial.buf) × IsUnderWay l.end l.buf
