use Rattle.std.proofs.Common.{[], sym, ◌∙◌, append-nil}
use Rattle.qrexec_frame.proofs.GrammarLaws.{only_spelling}
use Rattle.qrexec_frame.proofs.laws.spellings_stand_apart.Goals as goal

pub returns : goal.returns
returns c channel one other m n first second (rest, begins) = only_spelling channel one other rest [] m n first second (begins ∙ sym (append-nil other))
