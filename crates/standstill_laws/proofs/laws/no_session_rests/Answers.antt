use Rattle.standstill_laws.proofs.laws.no_session_rests.Goals as goal
use Rattle.standstill_laws.proofs.PaceLaws.{no_session_rests_lem}

pub returns : goal.returns
returns c = no_session_rests_lem
