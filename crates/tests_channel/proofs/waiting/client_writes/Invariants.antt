use Rattle.vchan_rule.specs.Seated.{IsOpen}
use Rattle.tests_channel.proofs.waiting.client_writes.Given as goal

abbrev pub invariant-pieces : goal.invariant-pieces
invariant-pieces g l = IsOpen l.end
