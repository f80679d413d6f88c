use Rattle.std.proofs.Common.{sym}
use Rattle.vchan_c.proofs.vchan_end_init.Goals as goal

pub returns-clause-made : goal.returns-clause-made
returns-clause-made c = λ _. record {
  machine = c.in-Some.machine;
  kept = record { same = sym c.kept.ensures.kept; alone = c.kept.ensures.alone };
  short = c.kept.ensures.short;
  idle = c.in-Some.ensures.idle;
  standing = c.in-Some.ensures.standing;
}
