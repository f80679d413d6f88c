use Rattle.vchan_rule.specs.Seated.{IsOpen}
use Rattle.vchan_rule.specs.Ends.{IsSameEnd}
use Rattle.tests_ring.proofs.threads.receive_all.Given as goal

abbrev pub invariant-drains : goal.invariant-drains
invariant-drains l = IsOpen l.end × IsSameEnd l.initial.end l.end
