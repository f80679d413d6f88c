use Rattle.standstill_laws.proofs.laws.page_stands_still.Goals as goal
use Rattle.standstill_laws.proofs.PageLaws.{stands_still}

pub returns : goal.returns
returns c = stands_still
