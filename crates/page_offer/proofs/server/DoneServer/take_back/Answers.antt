use Rattle.std.proofs.Common.{◌∙◌, ap, sym, subst}
use Rattle.end_view.specs.EndView.{EndView}
use Rattle.rtrb.specs.Ring.{sent}
use Rattle.page_offer.specs.declared.server.ServerLast.{ServerLast}
use Rattle.page_offer.specs.Names.{name_of}
use Rattle.page_offer.specs.Views.{DoneEnd}
use Rattle.page_offer.specs.Offers.{StandsServer, server_end}
use Rattle.page_offer.proofs.server.DoneServer.take_back.Goals as goal

pub take_back-last-requires : goal.take_back-last-requires
take_back-last-requires c =
    (record { orders = c.self.inside.orders; start = c.self.inside.first }, sent c.self.inside.offers, subst (λ (l : ServerLast). StandsServer (record { orders = c.self.inside.orders; start = c.self.inside.first }) (sent c.self.inside.offers) l) (sym c.replace-last.ensures.value) c.self.invariant)

pub invariant_of-self : goal.invariant_of-self
invariant_of-self c =
    let stands = subst (λ (l : ServerLast). StandsServer (record { orders = c.self.inside.orders; start = c.self.inside.first }) (sent c.self.inside.offers) l) (sym c.replace-last.ensures.value) c.self.invariant in
    (c.take_back-last.ensures (name_of c.self.inside.offers.end c.self.inside.orders c.self.inside.first) _ _ stands).0

pub returns : goal.returns
returns c =
    let stands = subst (λ (l : ServerLast). StandsServer (record { orders = c.self.inside.orders; start = c.self.inside.first }) (sent c.self.inside.offers) l) (sym c.replace-last.ensures.value) c.self.invariant in
    let name = name_of c.self.inside.offers.end c.self.inside.orders c.self.inside.first in
    let same = (c.take_back-last.ensures name _ _ stands).1 ∙ ap (server_end name) c.replace-last.ensures.value in
    ap (λ (e : EndView). let done : DoneEnd = record { end = e; orders = c.self.inside.orders; start = c.self.inside.first } in done) same ∙ c.self.view_is
