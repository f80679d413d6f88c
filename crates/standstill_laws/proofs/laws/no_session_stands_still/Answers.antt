use Rattle.standstill_laws.proofs.laws.no_session_stands_still.Goals as goal
use Rattle.standstill_laws.proofs.TurnLaws.{no_session_stands_still_lem}

pub returns : goal.returns
returns c = no_session_stands_still_lem
