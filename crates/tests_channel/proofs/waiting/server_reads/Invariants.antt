use Rattle.vchan_rule.specs.Seated.{IsOpen}
use Rattle.tests_channel.proofs.waiting.server_reads.Given as goal

abbrev pub invariant-reads : goal.invariant-reads
invariant-reads g l = IsOpen l.end
