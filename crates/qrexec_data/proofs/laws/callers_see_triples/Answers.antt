use Rattle.qrexec_data.proofs.SessionLaws.{callers_see_triples}
use Rattle.qrexec_data.proofs.laws.callers_see_triples.Goals as goal

pub returns : goal.returns
returns c = callers_see_triples
