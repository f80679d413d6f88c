use Rattle.run_laws.proofs.laws.answers_all.Goals as goal
use Rattle.run_laws.proofs.Domains.AnswersAllLaw.{answers_all}

pub returns : goal.returns
returns c = answers_all
