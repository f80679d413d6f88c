use Rattle.vchan_rule.specs.Seated.{IsOpen}
use Rattle.vchan_rule.specs.Ends.{IsSameEnd}
use Rattle.tests_ring.proofs.threads.exchange.Given as goal

abbrev pub invariant-tries : goal.invariant-tries
invariant-tries l = IsOpen l.end × IsSameEnd l.initial.end l.end
