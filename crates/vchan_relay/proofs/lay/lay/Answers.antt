-- One more page is made, with its seats.
use Rattle.std.proofs.Common.{◌∷◌, ◌++◌, [], List, length, sym, subst, ap, ◌∙◌, arith}
use Rattle.std.proofs.lemmas.List.{length_push}
use Rattle.vchan_rule.specs.Seated.{PageView}
use Rattle.vchan_relay.specs.declared.lay.PageSeats.{PageSeats}
use Rattle.vchan_relay.specs.Laying.{AreLaid}
use Rattle.vchan_relay.proofs.RowLaws.{laid_more}
use Rattle.vchan_relay.proofs.lay.lay.Goals as goal

pub loop-page-preserved : goal.loop-page-preserved
loop-page-preserved c =
    let p = c.in_ok-page in
    let seats : PageSeats = record { server = p.server; client = p.client } in
    let laid = laid_more (record { orders = c.args.orders; start = c.args.start }) c.loop-page.pages.items c.loop-page.seats.items p.page seats c.loop-page.invariant.0 (record { words_are = (λ i. record { orders = p.ensures.0 i; start = p.ensures.1 i }); server = p.ensures.2; client = p.ensures.3 }) in
    let long = ap (λ (ps : List PageView). length ps) c.in_ok-push.ensures.items ∙ length_push c.loop-page.pages.items p.page in (
      subst (λ (ps : List PageView). AreLaid (record { orders = c.args.orders; start = c.args.start }) ps c.push-in-loop-page.new.self.items) (sym c.in_ok-push.ensures.items)
          (subst (AreLaid (record { orders = c.args.orders; start = c.args.start }) (c.loop-page.pages.items ++ p.page ∷ [])) (sym c.in_ok-push-2.ensures.items) laid),
      omega (arith, long, c.loop-page.invariant.1),
    )
