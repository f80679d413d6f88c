use Rattle.run_laws.proofs.laws.reports_are_lawful.Goals as goal
use Rattle.run_laws.proofs.Reports.LawfulReport.{lawful_report}

pub returns : goal.returns
returns c = lawful_report
