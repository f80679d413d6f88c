use Rattle.std.proofs.Common.{subst}
use Rattle.end_view.specs.Settled.{IsSettled}
use Rattle.page_offer.proofs.NameLaws.{settled_named}
use Rattle.page_offer.proofs.settling.OfferedPage.promise.Goals as goal

pub returns : goal.returns
returns c = subst IsSettled c.self.view_is (settled_named c.self.inside.server.value.end.page c.self.inside.settled c.promise.ensures)
