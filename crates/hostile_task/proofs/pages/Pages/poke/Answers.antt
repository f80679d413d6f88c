-- Each page is poked in its turn, and the others are still as they were.
use Rattle.std.proofs.Common.{◌≡◌, List, [], length, map, slice_index_or, subst, sym, ap, ◌∙◌, arith}
use Rattle.list_laws.proofs.Each.{each_index}
use Rattle.task_duties.specs.Hostile.Stores.{poked, orders_at}
use Rattle.hostile_task.specs.Plan.{plan_of}
use Rattle.hostile_task.specs.Pages.{after_events}
use Rattle.hostile_task.specs.declared.page.TurnedPage.{TurnedPage}
use Rattle.hostile_task.proofs.ListLaws.{written_back, map_first_here, map_first_all, map_more}
use Rattle.hostile_task.proofs.pages.Pages.poke.Goals as goal

pub poke-requires-in-loop-payload : goal.poke-requires-in-loop-payload
poke-requires-in-loop-payload c =
    let change = λ (p : TurnedPage). after_events p (poked (plan_of c.args.domain.now []) p.place c.args.page.now c.args.word c.args.value) in
    let first = c.deref_mut-payload-items.result.now in
    let fits = λ (p : TurnedPage). p.end.side.orders ≡ orders_at (plan_of c.args.domain.now []) p.place in
    let d = c.payload-item.result in
    let here = ap (λ (ps : List TurnedPage). slice_index_or ps c.loop-payload.payload-index d) c.loop-payload.invariant ∙ map_first_here change c.loop-payload.payload-index first d in
    subst fits (sym here)
    (subst (λ (ps : List TurnedPage). fits (slice_index_or ps c.loop-payload.payload-index d)) (sym c.deref_mut-payload-items.ensures.value)
    (each_index fits c.args.self.now.payload.items c.loop-payload.payload-index d c.requires.1 (omega (arith, ap length c.deref_mut-payload-items.ensures.value, c.loop-payload-test.true))))

pub loop-payload-preserved : goal.loop-payload-preserved
loop-payload-preserved c =
    let change = λ (p : TurnedPage). after_events p (poked (plan_of c.args.domain.now []) p.place c.args.page.now c.args.word c.args.value) in
    map_more change c.loop-payload.payload-index c.deref_mut-payload-items.result.now c.loop-payload.payload-items c.payload-item.result c.poke-in-loop-payload.new.self
    c.loop-payload.invariant (omega arith) c.poke-in-loop-payload.ensures

pub returns : goal.returns
returns c =
    let change = λ (p : TurnedPage). after_events p (poked (plan_of c.args.domain.now []) p.place c.args.page.now c.args.word c.args.value) in
    record {
      control = c.poke.ensures;
      payload =
          written_back c.args.self.now.payload.len c.loop-payload.payload-items c.args.self.now.payload.items (omega (arith, c.args.self.now.payload.ok.0, c.loop-payload.auto.payload-items, ap length c.deref_mut-payload-items.ensures.value))
          ∙ c.loop-payload.invariant ∙ map_first_all change c.loop-payload.payload-index c.deref_mut-payload-items.result.now (omega arith)
          ∙ ap (λ (ps : List TurnedPage). map change ps) c.deref_mut-payload-items.ensures.value;
    }
