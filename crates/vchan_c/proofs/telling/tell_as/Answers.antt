use Rattle.std.proofs.Common.{sym}
use Rattle.vchan_c.proofs.telling.tell_as.Goals as goal

pub returns-clause-kept : goal.returns-clause-kept
returns-clause-kept g c = record { same = sym c.kept.ensures.kept; alone = c.kept.ensures.alone }
