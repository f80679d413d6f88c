use Rattle.std.proofs.Common.{◌≡◌, ◌∷◌, List, ◌∙◌, ap, sym, arith, length, false, subst}
use Rattle.std.specs.Prelude.{IsTrue}
use Rattle.page_offer.specs.declared.offer.Offer.{Offer}
use Rattle.page_offer.proofs.client.is_offered.Goals as goal

same_first : {x y : Offer} {xs ys : List Offer} → x ∷ xs ≡ y ∷ ys → x ≡ y
same_first e = cc

pub returns-then-slots-eq0-clause-unoffered : goal.returns-then-slots-eq0-clause-unoffered
returns-then-slots-eq0-clause-unoffered c = λ _ next. (let many = ap length next.1.1 in let none = c.slots.ensures.value in absurd (omega arith))

pub returns-clause-offered : goal.returns-clause-offered
returns-clause-offered c is =
    let words = c.begins_with.ensures.0 is in
    (c.peek_known.result.now, c.peek_known.ensures, words.0, words.1)

pub returns-clause-unoffered : goal.returns-clause-unoffered
returns-clause-unoffered c = λ not next.
    let same : next.0 ≡ c.peek_known.result.now = same_first (next.1.1 ∙ sym c.peek_known.ensures.1) in
    let never : IsTrue false = subst IsTrue not (c.begins_with.ensures.1 (ap (λ (x : Offer). x.page.orders) (sym same) ∙ next.2, ap (λ (x : Offer). x.page.start) (sym same) ∙ next.3)) in cc
