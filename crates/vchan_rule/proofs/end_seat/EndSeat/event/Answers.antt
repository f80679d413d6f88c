use Rattle.std.proofs.Common.{◌≡◌, ◌||◌, [], None, length, sym, ap, ◌∙◌, subst, arith}
use Rattle.ring_words.specs.declared.order.Orders.{Orders}
use Rattle.vchan_protocol.specs.declared.op.Op.{Op}
use Rattle.vchan_protocol.specs.declared.side.Side.{Side}
use Rattle.vchan_protocol.specs.Table.Plan.{after, next_op, GoesOn}
use Rattle.vchan_core.specs.Page.StandsFor.{HasPayload}
use Rattle.vchan_protocol.specs.Table.Apply.{Fits}
use Rattle.vchan_protocol.specs.History.Core.{op_next, plan_left, answer_in, sets_gone}
use Rattle.vchan_core.specs.OneMachine.Phases.{payload_needed, buffer_needed}
use Rattle.vchan_protocol.proofs.History.EventLaws.{Fits_more}
use Rattle.vchan_rule.specs.declared.rule.View.TheVariants.{One}
use Rattle.vchan_protocol.specs.History.Core.{side_after}
use Rattle.vchan_rule.specs.Ends.{end_in, seen, seen_by, Agrees}
use Rattle.vchan_protocol.specs.OneEnd.OneCall.{landed}
use Rattle.ring_words.specs.Page.{word_count}
use Rattle.vchan_rule.specs.Seated.{SeatedCall, driven, AreWordsOf}
use Rattle.vchan_rule.specs.Going.{IsReady}
use Rattle.vchan_rule.proofs.EndLaws.{Inside, Stepped, inside, plan_is, goes_on, stores_own, after_step, machine_orders, keeps_payload, lies}
use Rattle.vchan_protocol.specs.Hostile.TurnedLaw.{LiesAtCount}
use Rattle.vchan_rule.proofs.end_seat.EndSeat.event.Goals as goal

-- the end inside its call, before the event
held_before : (c : goal.After-perform-arg-3-1) → Inside c.args.words.now.key.start c.args.machine.now (end_in c.self.inside.seat.me.0) c.args.payload.now (seen_by c.self.inside.begun.value (end_in c.self.inside.seat.me.0) c.args.payload.now)
held_before c =
    let r = subst (λ (e : SeatedCall). IsReady (driven c.args.words.now.key.start e c.args.machine.now) c.args.payload.now c.args.buf.now) (sym c.self.view_is) c.requires.ready in
    inside c.args.words.now.key.start c.self.inside.begun.value c.args.machine.now (end_in c.self.inside.seat.me.0) c.args.payload.now r.agrees r.pays (λ i. let low = c.type_inv.payload i in omega (arith, low))

pub perform-value-requires-clause-seat : goal.perform-value-requires-clause-seat
perform-value-requires-clause-seat c =
    let h = held_before c in
    (ap (λ (e : SeatedCall). e.page) c.self.view_is ∙ sym c.requires.words.0, (end_in c.self.inside.seat.me.0, c.self.invariant.0, h.enters), h.own.honest)

pub perform-value-requires-clause-page : goal.perform-value-requires-clause-page
perform-value-requires-clause-page c =
    let w = subst (λ (e : SeatedCall). AreWordsOf c.args.words.now.table_id c.args.words.now.key e) (sym c.self.view_is) c.requires.words in
    let orders = c.self.invariant.1 in
    (w.1 ∙ ap word_count orders, w.2 ∙ orders)

pub perform-value-requires-clause-fits : goal.perform-value-requires-clause-fits
perform-value-requires-clause-fits c =
    let m = c.args.machine.now in (
      buffer_needed m,
      subst (λ (o : Orders). Fits o (length c.args.payload.now) (buffer_needed m) c.next-op.result) (machine_orders _ m _ _ _ (held_before c) ∙ c.self.invariant.1)
          (Fits_more m.orders (payload_needed m) (buffer_needed m) (length c.args.payload.now) (buffer_needed m) c.next-op.result c.requires.ready.out (omega arith) c.next-op.ensures.fits),
    )

pub perform-value-requires-clause-payload : goal.perform-value-requires-clause-payload
perform-value-requires-clause-payload c = stores_own _ c.args.machine.now _ _ _ (held_before c) c.requires.ready.busy c.next-op.result c.next-op.ensures.op

-- the same, and the end after the event
held : (c : goal.After-took) → Inside c.args.words.now.key.start c.args.machine.now (end_in c.self.inside.seat.me.0) c.args.payload.now (seen_by c.self.inside.begun.value (end_in c.self.inside.seat.me.0) c.args.payload.now)
held c =
    let r = subst (λ (e : SeatedCall). IsReady (driven c.args.words.now.key.start e c.args.machine.now) c.args.payload.now c.args.buf.now) (sym c.self.view_is) c.requires.ready in
    inside c.args.words.now.key.start c.self.inside.begun.value c.args.machine.now (end_in c.self.inside.seat.me.0) c.args.payload.now r.agrees r.pays (λ i. let low = c.type_inv.payload i in omega (arith, low))

stepped : (c : goal.After-took) → Stepped c.args.words.now.key.start c.took.new.self (seen_by c.self.inside.begun.value (end_in c.self.inside.seat.me.0) c.args.payload.now) c.perform-value.result c.took.result
stepped c =
    let t = c.took.ensures in
    after_step _ c.args.machine.now c.took.new.self _ _ _ c.took.result c.perform-value.result (held c) c.requires.ready.busy t.rest t.idle t.standing

pub invariant_of-self : goal.invariant_of-self
invariant_of-self c =
    let v = c.self.invariant in
    let h = held c in
    let s = stepped c in
    let p = c.perform-value.ensures in
    let here = ap (λ z. end_in z.0) p.event in
    let op_next_is : op_next (seen_by c.self.inside.begun.value (end_in c.self.inside.seat.me.0) c.args.payload.now) ≡ c.next-op.result = ap next_op (plan_is _ c.args.machine.now _ _ _ h c.requires.ready.busy) ∙ sym c.next-op.ensures.op in (
      p.event ∙ sym (ap (λ z. (One (end_in z.0), [])) p.event),
      ap (λ (z : Side). z.orders) here ∙ s.orders_are ∙ h.orders_are ∙ v.1,
      ap (λ (z : Side). z.role) here ∙ s.role_is ∙ h.role_is ∙ v.2,
      ap (λ (z : Side). z.retired) here ∙ s.retired_is
          ∙ (λ i. sets_gone (op_next_is i) ((h.role_is ∙ v.2) i) || (h.retired_is ∙ v.3) i) ∙ sym c.retired_after-self-inside.ensures,
    )

pub returns-clause-words : goal.returns-clause-words
returns-clause-words c =
    let w = subst (λ (e : SeatedCall). AreWordsOf c.args.words.now.table_id c.args.words.now.key e) (sym c.self.view_is) c.requires.words in
    let p = c.perform-value.ensures in
    let orders = sym (ap (λ z. (end_in z.0).orders) p.event ∙ (stepped c).orders_are ∙ (held c).orders_are) in
    (w.0 ∙ sym p.seat.0, w.1 ∙ ap word_count orders, w.2 ∙ orders)

pub returns-clause-event : goal.returns-clause-event
returns-clause-event c =
    let was = c.self.view_is in
    let here = ap (λ z. end_in z.0) c.perform-value.ensures.event in (
      c.perform-value.result,
      here ∙ ap (λ (e : SeatedCall). side_after (seen (driven c.args.words.now.key.start e c.args.machine.now) c.args.payload.now) c.perform-value.result) was,
      (stepped c).answer ∙ ap (λ (e : SeatedCall). answer_in (after (plan_left (seen (driven c.args.words.now.key.start e c.args.machine.now) c.args.payload.now)) c.perform-value.result)) was,
      c.land.ensures ∙ ap (λ (o : Op). landed o c.perform-value.result c.args.buf.now) (c.next-op.ensures.op ∙ ap next_op (sym (plan_is _ c.args.machine.now _ _ _ (held c) c.requires.ready.busy))) ∙ ap (λ (e : SeatedCall). landed (op_next (seen (driven c.args.words.now.key.start e c.args.machine.now) c.args.payload.now)) c.perform-value.result c.args.buf.now) was,
    )

pub land-requires : goal.land-requires
land-requires c =
    let m = c.args.machine.now in
    (m.orders, payload_needed m, Fits_more m.orders (payload_needed m) (buffer_needed m) (payload_needed m) (length c.args.buf.now) c.next-op.result (omega arith) c.requires.ready.into c.next-op.ensures.fits)

pub returns-clause-goes_on : goal.returns-clause-goes_on
returns-clause-goes_on c =
    subst (λ (e : SeatedCall). GoesOn (plan_left (seen (driven c.args.words.now.key.start e c.args.machine.now) c.args.payload.now))) c.self.view_is (goes_on _ c.args.machine.now _ _ _ (held c) c.requires.ready.busy)

pub returns-clause-payload : goal.returns-clause-payload
returns-clause-payload c =
    let here = ap (λ z. end_in z.0) c.perform-value.ensures.event in
    subst (λ (s : Side). HasPayload s c.args.payload.now) (sym here) (keeps_payload _ c.perform-value.result c.args.payload.now (held c).has)

pub returns-clause-agrees : goal.returns-clause-agrees
returns-clause-agrees c = subst (λ (z : Side). Agrees c.args.words.now.key.start None c.took.new.self z) (sym (ap (λ z. end_in z.0) c.perform-value.ensures.event)) (stepped c).agrees

pub returns-clause-places : goal.returns-clause-places
returns-clause-places c =
    subst (λ (e : SeatedCall). LiesAtCount (seen (driven c.args.words.now.key.start e c.args.machine.now) c.args.payload.now) (op_next (seen (driven c.args.words.now.key.start e c.args.machine.now) c.args.payload.now))) c.self.view_is (lies _ c.args.machine.now _ _ _ (held c) c.requires.ready.busy)
