use Rattle.std.proofs.Common.{ap, ◌∙◌, sym, subst}
use Rattle.atomic_table.specs.Seated.{TableId}
use Rattle.ring_words.specs.declared.page.Role.TheVariants.{Client}
use Rattle.rtrb.specs.Ring.{known_items, sent, received}
use Rattle.vchan_rule.specs.Seated.{last_view}
use Rattle.page_offer.specs.declared.server.ServerLast.{ServerLast}
use Rattle.page_offer.specs.declared.client.ClientLast.{ClientLast}
use Rattle.page_offer.specs.Views.{DoneEnd, idle_view, named}
use Rattle.page_offer.specs.Offers.{StandsServer, StandsClient}
use Rattle.page_offer.proofs.SettleLaws.{server_named, client_named, settled_as}
use Rattle.page_offer.proofs.settling.settle_sides.Goals as goal

pub returns-in-Unlaid-client-clause-settled : goal.returns-in-Unlaid-client-clause-settled
returns-in-Unlaid-client-clause-settled c =
    let name = c.args.server.end.page in
    let w = subst (λ (l : ServerLast). StandsServer (record { orders = c.server.inside.orders; start = c.server.inside.first }) (sent c.server.inside.offers) l) c.in-Waits.is c.server.invariant in
    let s = server_named _ _ _ _ _ _ c.server.view_is c.in-Waits.is in
    let k = client_named _ _ _ _ _ _ c.client.view_is c.in-Unlaid-client.is in
    let o = c.settle_untaken.ensures in
    settled_as name _ _ c.settle_untaken.result _ _ (o.own.0 ∙ w.0 ∙ ap (λ (d : DoneEnd). d.orders) c.server.view_is) (o.own.1 ∙ w.1 ∙ ap (λ (d : DoneEnd). d.start) c.server.view_is) (ap (named name) o.own.2 ∙ s) (o.client name ∙ ap (λ (n : TableId). idle_view n Client) (sym c.requires.page) ∙ k)

pub settle_returned-requires-clause-said : goal.settle_returned-requires-clause-said
settle_returned-requires-clause-said c =
    let w = subst (λ (l : ClientLast). StandsClient (record { orders = c.client.inside.orders; start = c.client.inside.first }) (received c.client.inside.offers) (known_items c.client.inside.offers) l) c.in-Returned.is c.client.invariant in
    (w.2.mark, c.in-Returned.end.value, w.2.said)

pub returns-in-Waits-clause-settled : goal.returns-in-Waits-clause-settled
returns-in-Waits-clause-settled c =
    let name = c.args.server.end.page in
    let w = subst (λ (l : ServerLast). StandsServer (record { orders = c.server.inside.orders; start = c.server.inside.first }) (sent c.server.inside.offers) l) c.in-Waits.is c.server.invariant in
    let r = subst (λ (l : ClientLast). StandsClient (record { orders = c.client.inside.orders; start = c.client.inside.first }) (received c.client.inside.offers) (known_items c.client.inside.offers) l) c.in-Returned.is c.client.invariant in
    let s = server_named _ _ _ _ _ _ c.server.view_is c.in-Waits.is in
    let k = client_named _ _ _ _ _ _ c.client.view_is c.in-Returned.is in
    let o = c.settle_returned.ensures in
    let end = o.client r.2.mark c.in-Returned.end.value r.2.said in
    settled_as name _ _ c.settle_returned.result _ _ (o.own.0 ∙ w.0 ∙ ap (λ (d : DoneEnd). d.orders) c.server.view_is) (o.own.1 ∙ w.1 ∙ ap (λ (d : DoneEnd). d.start) c.server.view_is) (ap (named name) o.own.2 ∙ s) (ap (named name) end ∙ ap (λ (n : TableId). named n (last_view c.in-Returned.end.value)) (sym c.requires.page) ∙ k)

pub returns-in-Unlaid-client-2-clause-settled : goal.returns-in-Unlaid-client-2-clause-settled
returns-in-Unlaid-client-2-clause-settled c =
    let w = subst (λ (l : ServerLast). StandsServer (record { orders = c.server.inside.orders; start = c.server.inside.first }) (sent c.server.inside.offers) l) c.in-Settled.is c.server.invariant in
    absurd (c.was_taken.ensures c.in-Settled.settled w.3)

pub returns-clause-settled : goal.returns-clause-settled
returns-clause-settled c =
    let name = c.args.server.end.page in
    let w = subst (λ (l : ServerLast). StandsServer (record { orders = c.server.inside.orders; start = c.server.inside.first }) (sent c.server.inside.offers) l) c.in-Settled.is c.server.invariant in
    let r = subst (λ (l : ClientLast). StandsClient (record { orders = c.client.inside.orders; start = c.client.inside.first }) (received c.client.inside.offers) (known_items c.client.inside.offers) l) c.in-Returned-client.is c.client.invariant in
    let s = server_named _ _ _ _ _ _ c.server.view_is c.in-Settled.is in
    let k = client_named _ _ _ _ _ _ c.client.view_is c.in-Returned-client.is in
    let end = c.was_returned.ensures c.in-Settled.settled w.3 r.2.mark c.in-Returned-client.end.value r.2.said in
    settled_as name _ _ c.in-Settled.settled _ _ (w.0 ∙ ap (λ (d : DoneEnd). d.orders) c.server.view_is) (w.1 ∙ ap (λ (d : DoneEnd). d.start) c.server.view_is) s (ap (named name) end ∙ ap (λ (n : TableId). named n (last_view c.in-Returned-client.end.value)) (sym c.requires.page) ∙ k)
