use Rattle.std.proofs.Common.{◌∷◌, ◌++◌, [], List, ap, ◌∙◌, sym, subst}
use Rattle.rtrb.specs.Ends.{SameRing}
use Rattle.rtrb.specs.Ring.{sent}
use Rattle.vchan_rule.specs.Seated.{SeatedSide}
use Rattle.page_offer.specs.declared.back.Back.{Back}
use Rattle.page_offer.specs.declared.back.Back.TheVariants.{Done}
use Rattle.page_offer.specs.Backs.{BackSender}
use Rattle.page_offer.proofs.client.OpenClient.finish.Goals as goal

pub invariant_of-result : goal.invariant_of-result
invariant_of-result c =
    let offer = c.self.inside.offer.value in
    let new = c.push_reserved.new.self in
    let same = subst (λ (b : BackSender). SameRing b.end new.end) c.self.invariant.1 c.push_reserved.ensures.ring.0 in
    let before = ap (λ (b : BackSender). sent b) c.self.invariant.1 ∙ offer.marked.0 in
    let said = c.push_reserved.ensures.sent.0 ∙ ap (λ (z : List Back). z ++ Done c.args.own ∷ []) before ∙ ap (λ (e : SeatedSide). let more : List Back = Done e ∷ [] in Rattle.page_offer.specs.declared.back.Back.TheVariants.Of offer.mark ∷ more) (sym c.of-end.ensures) in
    (offer, c.self.invariant.0, record { same = same; mark = offer.mark; said = said })
