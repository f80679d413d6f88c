use Rattle.std.proofs.Common.{refl, subst, sym}
use Rattle.atomic_table.specs.Seated.{TableId}
use Rattle.page_offer.specs.Names.{IsNameOf, name_of}
use Rattle.page_offer.specs.Views.{DoneEnd}
use Rattle.page_offer.proofs.server.DoneServer.promise.Goals as goal
use Rattle.page_offer.proofs.NameLaws.{server_page}

pub returns : goal.returns
returns c =
    let name = name_of c.self.inside.offers.end c.self.inside.orders c.self.inside.first in
    let is : IsNameOf c.self.inside.orders c.self.inside.first name = record { no_words = refl; left = refl; right = refl; begins = refl } in
    subst (λ (d : DoneEnd). IsNameOf d.orders d.start d.end.page) c.self.view_is
    (subst (λ (n : TableId). IsNameOf c.self.inside.orders c.self.inside.first n) (sym (server_page name c.self.inside.last)) is)
