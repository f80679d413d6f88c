use Rattle.end_view.proofs.ViewLaws.{settles_views}
use Rattle.end_view.proofs.settles_views.Goals as goal

pub returns : goal.returns
returns c = settles_views
