use Rattle.std.proofs.Common.{◌∷◌, ◌++◌, [], List, ap, ◌∙◌, sym}
use Rattle.vchan_rule.specs.Seated.{PageView}
use Rattle.page_offer.specs.declared.offer.Offer.{Offer}
use Rattle.page_offer.proofs.server.UnlaidServer.open.Goals as goal

pub invariant_of-side : goal.invariant_of-side
invariant_of-side c =
    let laid = c.args.laid in
    let orders = c.requires.0 ∙ sym (ap (λ (p : PageView). p.orders) c.self.view_is) in
    let start = c.requires.1 ∙ sym (ap (λ (p : PageView). p.start) c.self.view_is) in
    let sent = c.push_reserved.ensures.sent.0 ∙ ap (λ (z : List Offer). z ++ laid.offer ∷ []) c.self.invariant.2 in
    (orders, start, record { offer = laid.offer; is = sent; of_page = laid.one_page.1; pair = laid.pair }, record { mark = laid.offer.mark; of_page = laid.offer.marked.1 ∙ laid.one_page.1; got = laid.awaited })
