use Rattle.script_words.proofs.WordLaws.{cut_found}
use Rattle.script_words.proofs.words.cut_at.Goals as goal

pub returns-in-Some-clause-pieces : goal.returns-in-Some-clause-pieces
returns-in-Some-clause-pieces c = cut_found _ _ _ c.in-Some.ensures
