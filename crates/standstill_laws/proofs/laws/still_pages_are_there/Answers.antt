use Rattle.standstill_laws.proofs.laws.still_pages_are_there.Goals as goal
use Rattle.standstill_laws.proofs.PageLaws.{still_pages_are_there_lem}

pub returns : goal.returns
returns c = still_pages_are_there_lem
