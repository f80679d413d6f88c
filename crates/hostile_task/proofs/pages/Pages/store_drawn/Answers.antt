-- A drawn store falls on the page that its first number names.
use Rattle.std.proofs.Common.{◌≡◌, ℕ, ◌+◌, ◌-◌, ◌%◌, suc, [], ◌∷◌, length, slice_index_or, arith, ap, sym, ◌∙◌}
use Rattle.scenario_file.specs.Generator.{Drawn}
use Rattle.vchan_protocol.specs.declared.op.Op.TheVariants.{Store}
use Rattle.vchan_protocol.specs.Hostile.Turned.{strays}
use Rattle.hostile_task.specs.declared.page.TurnedPage.{TurnedPage}
use Rattle.hostile_task.specs.Pages.{after_events}
use Rattle.hostile_task.proofs.DrawLaws.{drawn_event, draws_first, draws_other}
use Rattle.hostile_task.proofs.pages.Pages.store_drawn.Goals as goal

pub store-requires-else-at-eq0 : goal.store-requires-else-at-eq0
store-requires-else-at-eq0 c = c.field_of-field.ensures.reached c.index_mut.result.now.end.side.orders

pub returns-then-at-eq0 : goal.returns-then-at-eq0
returns-then-at-eq0 c plan places =
    let control = c.args.self.now.control in
    let d : Drawn = record { page = c.args.page; word = c.args.word; value = c.args.value } in
    let new : TurnedPage = record { place = control.place; given = control.given; end = c.store.new.self } in
    let long : length c.args.self.now.payload.items ≡ c.len.result = sym (c.len.ensures ∙ c.args.self.now.payload.ok.0) in
    let is : new ≡ after_events control (drawn_event d ∷ []) = λ i. record control {
      end = record { page = c.store.ensures.page i; side = (c.store.ensures.side ∙ (λ j. strays control.end.side (Store (c.field_of-field.ensures.field j) (c.from.ensures j)) 0)) i };
    } in
    let both = draws_first plan control c.args.self.now.payload.items d new places c.requires.apart (ap (λ (n : ℕ). c.args.page % (n + 1)) long ∙ c.if-at-eq0.true) is in
    record { control = both.0; payload = both.1 }

pub returns-else-at-eq0 : goal.returns-else-at-eq0
returns-else-at-eq0 c plan places =
    let control = c.args.self.now.control in
    let items = c.args.self.now.payload.items in
    let page = c.index_mut.result.now in
    let d : Drawn = record { page = c.args.page; word = c.args.word; value = c.args.value } in
    let n : ℕ = c.args.page % (c.len.result + 1) - 1 in
    let new : TurnedPage = record { place = page.place; given = page.given; end = c.store-else-at-eq0.new.self } in
    let long : length items ≡ c.len.result = sym (c.len.ensures ∙ c.args.self.now.payload.ok.0) in
    let above : c.args.page % (c.len.result + 1) ≡ suc n = omega (arith, c.if-at-eq0.false) in
    let is : new ≡ after_events (slice_index_or items n page) (drawn_event d ∷ []) =
    (λ i. record page {
      end = record {
        page = c.store-else-at-eq0.ensures.page i;
        side = (c.store-else-at-eq0.ensures.side ∙ (λ j. strays page.end.side (Store (c.field_of-field.ensures.field j) (c.from-else-at-eq0.ensures j)) 0)) i;
      };
    })
    ∙ ap (λ (p : TurnedPage). after_events p (drawn_event d ∷ [])) c.index_mut.ensures.value in
    let both = draws_other plan control items d n page new places c.requires.apart (ap (λ (k : ℕ). c.args.page % (k + 1)) long ∙ above) is in
    record { control = both.0; payload = both.1 }
