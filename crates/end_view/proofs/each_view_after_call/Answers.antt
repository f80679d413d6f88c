use Rattle.end_view.proofs.ViewLaws.{view_after}
use Rattle.end_view.proofs.each_view_after_call.Goals as goal

pub returns : goal.returns
returns c = view_after
