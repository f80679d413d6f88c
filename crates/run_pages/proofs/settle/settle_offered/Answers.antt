use Rattle.std.proofs.Common.{◌≡◌, ◌∙◌, refl, ap, subst, sym}
use Rattle.end_view.specs.Settled.{IsSettled, Settled}
use Rattle.page_offer.specs.Names.{IsNameOf}
use Rattle.page_offer.proofs.NameLaws.{same_orders, same_start}
use Rattle.task_duties.specs.GivenEnds.{done_view}
use Rattle.task_duties.specs.declared.ends.DoneEnd.{DoneEnd}
use Rattle.run_pages.proofs.settle.settle_offered.Goals as goal

pub settle-requires-clause-words : goal.settle-requires-clause-words
settle-requires-clause-words c =
    let side = c.in_ok-server.server in
    let name : side.end.page ≡ c.args.page.client.value = sym (ap (λ (d : DoneEnd). (done_view d).page) c.in_ok-server.ensures) ∙ c.requires.server in
    let named = subst (λ n. IsNameOf c.args.page.orders c.args.page.start n) (sym name) c.args.page.named in (
      c.requires.starts.0 ∙ same_orders c.args.page.orders side.orders c.args.page.start side.start side.end.page named c.promise.ensures,
      c.requires.starts.1 ∙ same_start c.args.page.orders side.orders c.args.page.start side.start side.end.page named c.promise.ensures,
    )

pub returns : goal.returns
returns c =
    let side = c.in_ok-server.server in
    let name : side.end.page ≡ c.args.page.client.value = sym (ap (λ (d : DoneEnd). (done_view d).page) c.in_ok-server.ensures) ∙ c.requires.server in
    let named = subst (λ n. IsNameOf c.args.page.orders c.args.page.start n) (sym name) c.args.page.named in
    let orders : c.args.page.orders ≡ side.orders = same_orders c.args.page.orders side.orders c.args.page.start side.start side.end.page named c.promise.ensures in
    let start : c.args.page.start ≡ side.start = same_start c.args.page.orders side.orders c.args.page.start side.start side.end.page named c.promise.ensures in
    let is = c.offered.ensures ∙ c.in_ok-settled.ensures.settled in
    record {
      place_is = refl;
      words_are = λ i. record { orders = (ap (λ (s : Settled). s.orders) is ∙ sym orders) i; start = (ap (λ (s : Settled). s.start) is ∙ sym start) i };
      server_is = ap (λ (s : Settled). s.server) is ∙ sym (ap done_view c.in_ok-server.ensures);
      client_is = ap (λ (s : Settled). s.client) is ∙ sym (ap done_view c.in_ok-client.ensures);
      settled = subst IsSettled (sym c.offered.ensures) c.promise-2.ensures;
    }
