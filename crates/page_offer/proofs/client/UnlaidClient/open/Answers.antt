use Rattle.std.proofs.Common.{ℕ, refl, rules, sym, subst}
use Rattle.std.specs.Prelude.{IsTrue}
use Rattle.atomic_table.specs.Seated.{TableId}
use Rattle.ring_words.specs.declared.order.Orders.{Orders}
use Rattle.page_offer.specs.Names.{IsNameOf, name_of}
use Rattle.page_offer.proofs.client.UnlaidClient.open.Goals as goal

pub take-requires-clause-offered : goal.take-requires-clause-offered
take-requires-clause-offered c =
    let there : IsTrue c.is_offered.result = search (rules, c.if-not-is_offered.false) in
    c.is_offered.ensures.offered there

pub returns-clause-words : goal.returns-clause-words
returns-clause-words c =
    let inside = c.self.inside in
    let words = c.take.ensures.words in
    let is : IsNameOf inside.orders inside.first (name_of inside.offers.end inside.orders inside.first) = record { no_words = refl; left = refl; right = refl; begins = refl } in
    let own : IsNameOf inside.orders inside.first c.args.self = subst (λ (n : TableId). IsNameOf inside.orders inside.first n) c.self.view_is is in
    subst (λ (o : Orders). IsNameOf o c.take.result.0.start c.args.self) (sym words.0) (subst (λ (s : ℕ). IsNameOf inside.orders s c.args.self) (sym words.1) own)
