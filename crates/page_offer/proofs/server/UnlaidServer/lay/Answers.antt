use Rattle.std.proofs.Common.{◌≡◌, ◌∷◌, ◌++◌, [], List, ap, ◌∙◌, sym}
use Rattle.page_offer.specs.declared.back.Back.{Back}
use Rattle.page_offer.specs.declared.back.Back.TheVariants.{Of}
use Rattle.page_offer.proofs.server.UnlaidServer.lay.Goals as goal

pub invariant_of-offer-clause-marked : goal.invariant_of-offer-clause-marked
invariant_of-offer-clause-marked c =
    let same : c.of.result ≡ c.of-2.result = λ i. record { marker = c.of.result.marker; value = (c.of.ensures ∙ sym c.of-2.ensures) i } in
    let said = c.slots_beside.ensures.producer.1 ∙ c.push_reserved.ensures.sent.0 ∙ ap (λ (z : List Back). z ++ Of c.of.result ∷ []) c.in_ok-sender.ensures.producer.0 ∙ ap (λ m. let more : List Back = Of m ∷ [] in more) same in
    (said, c.of-2.ensures ∙ sym c.in_ok-hold.ensures)
