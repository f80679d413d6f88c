use Rattle.std.proofs.Common.{◌∙◌, sym, subst, ap, refl, Option, IsNone}
use Rattle.vchan_core.specs.declared.ends.End.{End}
use Rattle.vchan_core.specs.declared.phase.Phase.{Phase}
use Rattle.vchan_core.specs.Page.StandsFor.{orders_of, words_of}
use Rattle.vchan_core.specs.OneMachine.Phases.{IsIdle}
use Rattle.vchan_core.proofs.Page.EndLaws.{in_place, stands_with_at, with_end_are}
use Rattle.vchan_core.proofs.Page.StepLaws.{DoesAt, keeps_orders, keeps_role}
use Rattle.vchan_core.proofs.plain.Plain.event.Goals as goal

pub invariant_of-self : goal.invariant_of-self
invariant_of-self c =
    let was = c.of_mut.ensures.value in
    let m = c.of_mut.result.now.machine in
    let m' = c.event.new.self.machine in
    let are = with_end_are c.args.self.now c.args.who c.event.new.self c.event.new.words.orders c.event.ensures.orders
    (keeps_orders m m' _ c.event.ensures.event.stands ∙ ap (λ (e : End). e.machine.orders) was)
    (keeps_role m m' _ c.event.ensures.event.stands ∙ ap (λ (e : End). e.machine.role) was) in
    record { server_orders = are.server_orders; client_orders = are.client_orders; server_role = are.server_role; client_role = are.client_role }

pub returns-clause-stands : goal.returns-clause-stands
returns-clause-stands c =
    let page = c.args.self.now in
    let was = c.of_mut.ensures.value in
    let e = c.event.new.self in
    let d : DoesAt (orders_of page) (words_of page) c.args.payload.now c.of_mut.result.now.machine e.machine c.args.phase c.event.result c.event.new.words.list c.of_mut.result.now.moved e.moved = record {
      leads = c.event.ensures.event.rest;
      idle = subst (λ (p : Option Phase). IsNone p) (sym c.event.ensures.event.own_phase) (subst (λ (x : End). IsIdle x.machine) (sym was) c.requires.idle);
      stands = c.event.ensures.event.stands;
      words_are = c.event.ensures.event.words;
      sent_is = c.event.ensures.sent;
      got_is = c.event.ensures.got;
      low = c.event.ensures.event.low;
    } in
    let does = subst (λ (x : End). DoesAt (orders_of page) (words_of page) c.args.payload.now x.machine e.machine c.args.phase c.event.result c.event.new.words.list x.moved e.moved) was d in
    λ core h has. stands_with_at core c.args.who page _ e c.args.payload.now c.args.phase c.event.result (in_place c.args.who page.ends _ e refl) h has does c.event.ensures.orders (c.event.ensures.turned ∙ ap (λ (x : End). x.turned) was)
