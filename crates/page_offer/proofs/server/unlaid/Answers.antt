use Rattle.std.proofs.Common.{refl, subst, sym}
use Rattle.atomic_table.specs.Seated.{TableId}
use Rattle.page_offer.specs.Names.{IsNameOf, name_of}
use Rattle.page_offer.proofs.server.unlaid.Goals as goal

pub returns-clause-name : goal.returns-clause-name
returns-clause-name c =
    let name = name_of c.in_ok-sender.receiver.end c.args.orders c.args.first in
    let is : IsNameOf c.args.orders c.args.first name = record { no_words = refl; left = refl; right = refl; begins = refl } in
    subst (λ (n : TableId). IsNameOf c.args.orders c.args.first n) (sym c.new-client.ensures) is
