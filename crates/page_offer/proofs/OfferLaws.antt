-- What stays of an offer while its two sides look at their rings.
use Rattle.std.proofs.Common.{◌≡◌, List, [], ◌∷◌, ◌++◌, ap, ◌∙◌, subst}
use Rattle.rtrb.specs.Ring.{received, SameConsumer}
use Rattle.ring_words.specs.declared.page.Role.TheVariants.{Client}
use Rattle.end_view.specs.Settled.{Settled}
use Rattle.vchan_rule.specs.Seated.{PageView, SeatedSide, last_view}
use Rattle.page_offer.specs.declared.back.Back.{Back}
use Rattle.page_offer.specs.declared.back.Back.TheVariants.{Done}
use Rattle.page_offer.specs.declared.offer.Offer.{Offer}
use Rattle.page_offer.specs.Backs.{BackReceiver, Follows}
use Rattle.page_offer.specs.Offers.{IsOffered, IsAwaited, IsReturned}

pub still_offered : (offers : List Offer) (page : PageView) (old new : BackReceiver) → SameConsumer old new → IsOffered offers page old → IsOffered offers page new
still_offered offers page old new same o = record { offer = o.offer; is = o.is; of_page = o.of_page; pair = (same.0.0 ∙ o.pair.0, same.0.1 ∙ o.pair.1, same.0.2 ∙ o.pair.2, same.0.3 ∙ o.pair.3) }

pub still_awaited : (page : PageView) (old new : BackReceiver) → received new ≡ received old → IsAwaited page old → IsAwaited page new
still_awaited page old new same a = record { mark = a.mark; of_page = a.of_page; got = same ∙ a.got }

-- what comes after the mark of a page is its client's end
pub is_client : (page : PageView) (back : BackReceiver) (end : SeatedSide) → IsAwaited page back → Follows (received back) (Done end) → (end.page ≡ page.table) × (end.side.role ≡ Client)
is_client page back end a follows =
    let now = subst (λ (z : List Back). Follows z (Done end)) a.got follows in
    (now.0 ∙ ap (λ (p : PageView). p.table) a.of_page, now.1)

pub came_back : (page : PageView) (old new : BackReceiver) (end : SeatedSide) (settled : Settled) → IsAwaited page old → received new ≡ received old ++ Done end ∷ [] → settled.client ≡ last_view end → IsReturned settled new
came_back page old new end settled a got is = record { mark = a.mark; end = end; got = got ∙ ap (λ (z : List Back). z ++ Done end ∷ []) a.got; client = is }
