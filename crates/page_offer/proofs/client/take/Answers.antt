-- The end is of the page that was offered, which has the side's own orders and start.
use Rattle.std.proofs.Common.{◌≡◌, ◌∷◌, List, ap, ◌∙◌, sym}
use Rattle.vchan_protocol.specs.declared.side.Side.{Side}
use Rattle.page_offer.specs.declared.offer.Offer.{Offer}
use Rattle.page_offer.proofs.client.take.Goals as goal

same_first : {x y : Offer} {xs ys : List Offer} → x ∷ xs ≡ y ∷ ys → x ≡ y
same_first e = cc

pub returns-clause-words : goal.returns-clause-words
returns-clause-words c =
    let o = c.requires.offered in
    let same : o.0 ≡ c.pop_known-taken.result = same_first (o.1.1 ∙ c.pop_known-taken.ensures.received.1) in (
      ap (λ (s : Side). s.orders) c.attach.ensures.side ∙ ap (λ (x : Offer). x.page.orders) (sym same) ∙ o.2,
      c.attach.ensures.page.1 ∙ ap (λ (x : Offer). x.page.start) (sym same) ∙ o.3,
    )
