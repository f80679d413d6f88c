use Rattle.std.proofs.Common.{subst}
use Rattle.vchan_top.specs.EndOfRun.{EndOfRun}
use Rattle.vchan_top.specs.Status.{IsWritten, status_line}
use Rattle.vchan_top.proofs.Pieces.{told}
use Rattle.vchan_top.proofs.entry.top.Goals as goal

pub returns-clause-line : goal.returns-clause-line
returns-clause-line g c =
    let held = g.E.Sink.held in
    let faults = g.E.Sink.faults in
    subst (λ (e : EndOfRun). IsWritten (status_line e.status) (held c.args.err.now) (held c.report_status.new.err) (faults c.args.err.now) (faults c.report_status.new.err)) c.end.view_is
    (told _ _ _ _ _ c.report_status.result c.report_status.ensures.writes)
