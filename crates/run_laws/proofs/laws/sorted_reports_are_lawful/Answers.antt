use Rattle.run_laws.proofs.laws.sorted_reports_are_lawful.Goals as goal
use Rattle.run_laws.proofs.Reports.WholeReport.{lawful_with_served}

pub returns : goal.returns
returns c = lawful_with_served
