use Rattle.vchan_top.proofs.Pieces.{told}
use Rattle.vchan_top.proofs.about.tell.Goals as goal

pub returns-clause-line : goal.returns-clause-line
returns-clause-line g c = told _ _ _ _ _ c.report_status.result c.report_status.ensures.writes
