use Rattle.vchan_top.proofs.LoadLaws.{prints_sums}
use Rattle.vchan_top.proofs.runs.load_text.Goals as goal

pub returns : goal.returns
returns g c = prints_sums c.args.number c.args.calls _ c.in_ok-scenario.scenario c.in_ok-report.report c.requires.few c.in_ok-scenario.ensures c.in_ok-report.ensures c.in_ok-text.ensures
