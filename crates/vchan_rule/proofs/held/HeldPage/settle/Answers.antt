use Rattle.std.proofs.Common.{rules, ◌≡◌, sym, ap, ◌∙◌, subst, refl}
use Rattle.std.specs.Arc.{arc_value}
use Rattle.atomic_table.specs.declared.shared.Seat.{Seat}
use Rattle.vchan_rule.specs.declared.rule.View.{View}
use Rattle.vchan_rule.specs.declared.rule.Opening.{Opening}
use Rattle.end_view.specs.Settled.{AreDone}
use Rattle.end_view.proofs.ViewLaws.{settles_views}
use Rattle.vchan_rule.specs.Seated.{SeatedSide, PageView}
use Rattle.vchan_rule.specs.Ends.{end_in}
use Rattle.vchan_rule.specs.Done.{Settles, server_in, client_in}
use Rattle.vchan_rule.specs.Rule.{joined, said_of}
use Rattle.vchan_rule.proofs.Keeps.{joins_at}
use Rattle.vchan_rule.proofs.held.HeldPage.settle.Goals as goal

pub join_seat-requires : goal.join_seat-requires
join_seat-requires c =
    let s = c.server.invariant in
    let t = c.client.invariant in
    let table = ap (λ (p : PageView). p.table) c.self.view_is in
    let sv = ap (λ (e : SeatedSide). e.page) c.server.view_is ∙ c.requires.server.0 ∙ sym table in
    let cv = ap (λ (e : SeatedSide). e.page) c.client.view_is ∙ c.requires.client.0 ∙ sym table in
    let here = c.deref.ensures in
    (cc, cc, ap (λ m. m.1) t.0, search rules, joins_at _ _ _ _ _ _ _ (ap (λ m. m.0) s.0) (ap (λ m. m.0) t.0) (ap (λ (e : SeatedSide). e.side.role) c.server.view_is ∙ c.requires.server.1))

pub show_settled-requires-clause-both : goal.show_settled-requires-clause-both
show_settled-requires-clause-both c =
    (end_in c.server.inside.seat.me.0, end_in c.client.inside.seat.me.0, c.join_seat.ensures.2 ∙ (λ i. (joined ((c.server.invariant.0 i).0) ((c.client.invariant.0 i).0), (c.server.invariant.0 i).1)))

pub invariant_of-result : goal.invariant_of-result
invariant_of-result c =
    let orders = c.self.inside.orders in
    let seen = c.of.result.value in
    let now = ap (λ (s : Seat (Unit {0}) View). s.me.0) c.of.ensures ∙ ap (λ m. m.0) c.show_settled.ensures.seat.1 in
    let both = ap (λ m. m.0) c.join_seat.ensures.2 ∙ (λ i. joined ((c.server.invariant.0 i).0) ((c.client.invariant.0 i).0)) in
    let there = now ∙ both in
    let mine : Opening = record { orders = orders; start = c.self.inside.start } in
    let here = c.deref.ensures in
    let told : c.deref.result.now.shared.key ≡ (arc_value c.self.inside.table).shared.key = cc in
    let key : c.deref.result.now.shared.key ≡ mine = told ∙ (λ i. record { orders = c.self.invariant.1 i; start = c.self.invariant.2 i }) in
    let stands : Settles mine seen.me.0 = subst (λ (z : View). Settles mine z) (sym now) (subst (λ (k : Opening). Settles k c.join_seat.new.seat.me.0) key c.show_settled.ensures.settled) in
    let server_turned = ap (λ (z : View). (server_in z).turned) there in
    let client_turned = ap (λ (z : View). (client_in z).turned) there in
    let done : AreDone (server_in seen.me.0) (client_in seen.me.0) = record {
      is_server = ap (λ (z : View). (server_in z).role) there ∙ ap (λ (e : SeatedSide). e.side.role) c.server.view_is ∙ c.requires.server.1;
      is_client = ap (λ (z : View). (client_in z).role) there ∙ ap (λ (e : SeatedSide). e.side.role) c.client.view_is ∙ c.requires.client.1;
      server_shut = λ honest. ap (λ (z : View). (server_in z).state) there ∙ c.server.invariant.4 (sym server_turned ∙ honest);
      client_shut = λ honest. ap (λ (z : View). (client_in z).state) there ∙ c.client.invariant.4 (sym client_turned ∙ honest);
      server_told = λ honest. ap (λ (z : View). (server_in z).retired) there ∙ c.server.invariant.3 (sym server_turned ∙ honest);
      client_told = λ honest. ap (λ (z : View). (client_in z).retired) there ∙ c.client.invariant.3 (sym client_turned ∙ honest);
    } in (
      settles_views orders c.self.inside.start (said_of orders) seen.table_id (server_in seen.me.0) (client_in seen.me.0) (refl, refl) stands done,
      sym c.server.invariant.2 ∙ sym server_turned,
      sym c.client.invariant.2 ∙ sym client_turned,
    )
