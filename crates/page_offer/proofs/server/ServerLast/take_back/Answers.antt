use Rattle.std.proofs.Common.{◌∷◌, ◌++◌, [], ap, ◌∙◌, sym, subst}
use Rattle.rtrb.specs.Ring.{received}
use Rattle.end_view.specs.Settled.{Settled}
use Rattle.page_offer.specs.declared.back.Back.{Back}
use Rattle.page_offer.specs.declared.server.ServerLast.{ServerLast}
use Rattle.page_offer.specs.Backs.{Follows}
use Rattle.page_offer.specs.Views.{named}
use Rattle.page_offer.specs.Offers.{StandsServer, server_end}
use Rattle.page_offer.proofs.OfferLaws.{still_offered, still_awaited, is_client, came_back}
use Rattle.page_offer.proofs.server.ServerLast.take_back.Goals as goal

pub settle-settled-requires-clause-server : goal.settle-settled-requires-clause-server
settle-settled-requires-clause-server c =
    let w = subst (λ (l : ServerLast). StandsServer c.requires.0 c.requires.1 l) c.in-Waits.is c.requires.2 in
    (w.2, w.3)

pub settle-settled-requires-clause-client : goal.settle-settled-requires-clause-client
settle-settled-requires-clause-client c =
    let w = subst (λ (l : ServerLast). StandsServer c.requires.0 c.requires.1 l) c.in-Waits.is c.requires.2 in
    is_client _ _ c.in-Ok-Done.theirs w.5 (subst (λ (back : Back). Follows (received c.in-Waits.back) back) c.in-Ok-Done.field-0-is c.in-Ok-Done.ensures.ok.2)

pub returns-in-Ok-Done : goal.returns-in-Ok-Done
returns-in-Ok-Done c = λ name words offers stands.
    let w = subst (λ (l : ServerLast). StandsServer words offers l) c.in-Waits.is stands in
    let s = c.settle-settled.ensures in
    let end = ap (λ (p : Settled). named name p.server) s ∙ ap (server_end name) (sym c.in-Waits.is) in
    let got = c.in-Ok-Done.ensures.ok.0 ∙ ap (λ (back : Back). received c.in-Waits.back ++ back ∷ []) c.in-Ok-Done.field-0-is in
    ((ap (λ (p : Settled). p.orders) s ∙ w.0, ap (λ (p : Settled). p.start) s ∙ w.1, (c.in-Waits.page, still_offered _ _ _ _ c.in-Ok-Done.ensures.ring w.4), came_back _ _ _ c.in-Ok-Done.theirs _ w.5 got (ap (λ (p : Settled). p.client) s)), end)

pub returns-in-Err : goal.returns-in-Err
returns-in-Err c = λ name words offers stands.
    let w = subst (λ (l : ServerLast). StandsServer words offers l) c.in-Waits.is stands in
    let end = ap (server_end name) (sym c.in-Waits.is) in
    ((w.0, w.1, w.2, w.3, still_offered _ _ _ _ c.in-Err.ensures.ring w.4, still_awaited _ _ _ c.in-Err.ensures.empty.0 w.5), end)
