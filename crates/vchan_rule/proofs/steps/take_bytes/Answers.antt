use Rattle.std.proofs.Common.{◌≡◌, ◌<◌, [], slice_index, ℕ, ◌+◌, sym, ap, subst, ◌∙◌, refl, inl, arith, None}
use Rattle.ring_words.specs.Page.{index_of}
use Rattle.ring_words.specs.declared.page.WordName.TheVariants.{RingByte}
use Rattle.vchan_core.specs.declared.machine.Machine.{Machine}
use Rattle.vchan_core.specs.OneMachine.Ahead.{take_at}
use Rattle.vchan_rule.specs.Ends.{end_in, Agrees}
use Rattle.vchan_rule.specs.declared.rule.View.TheVariants.{One}
use Rattle.vchan_rule.proofs.ByteLaws.{take_next, take_has, number_from, some_size, moving_none, byte_owed, byte_moved}
use Rattle.vchan_rule.proofs.steps.take_bytes.Goals as goal
use Rattle.vchan_protocol.proofs.Lists.ListPieces.{byte_in}

pub bytes-init : goal.bytes-init
bytes-init c =
    let r = c.requires in
    let start = c.args.words.now.key.start in
    let v = end_in c.args.seat.now.me.0 in
    let agrees = subst (λ (m : Machine). Agrees start None m v) r.take.here r.agrees in
    (omega (arith, r.take.more), refl, r.seat.1, moving_none start _ c.args.payload.now v c.args.buf.now agrees r.payload)

pub take_byte-value-requires-clause-seat : goal.take_byte-value-requires-clause-seat
take_byte-value-requires-clause-seat c =
    let h = c.bytes.invariant in
    (h.1 ∙ c.requires.seat.0, (end_in c.bytes.seat.me.0, h.2, inl refl), h.3.agrees.own.honest)

pub take_byte-value-requires-clause-op : goal.take_byte-value-requires-clause-op
take_byte-value-requires-clause-op c =
    let m = c.args.machine.now in
    let at = c.bytes.at in
    let h = c.bytes.invariant in
    let next = take_next m c.args.span at c.place-lies.result c.requires.take c.bytes-test.true c.place-lies.ensures.place in
    let low : (k : ℕ) → slice_index c.args.payload.now k < 256 = λ k. let b = c.type_inv.payload k in omega (arith, b) in
    byte_owed _ (take_at m c.args.span at) (take_at m c.args.span (at + 1)) c.args.payload.now (end_in c.args.seat.now.me.0) c.args.buf.now (end_in c.bytes.seat.me.0) c.bytes.buf _ next h.3 low

pub word-base-requires : goal.word-base-requires
word-base-requires c = take_has c.args.machine.now c.args.span c.args.layout.now.orders 0 c.requires.take c.requires.page.2 (some_size c.args.span.order)

pub take_byte-value-requires-clause-number : goal.take_byte-value-requires-clause-number
take_byte-value-requires-clause-number c =
    let orders = c.args.layout.now.orders in
    let lies = c.place-lies.result in
    let has = take_has c.args.machine.now c.args.span orders lies c.requires.take c.requires.page.2 c.place-lies.ensures.within in
    let is : c.word-base.result + lies ≡ index_of orders (RingByte c.args.span.ring lies) = ap (λ (n : ℕ). n + lies) c.word-base.ensures.number ∙ number_from orders c.args.span.ring lies in
    let within = byte_in orders c.args.span.ring lies has in
    (is, omega (arith, is, within, c.requires.page.0))

pub bytes-preserved : goal.bytes-preserved
bytes-preserved c =
    let m = c.args.machine.now in
    let at = c.bytes.at in
    let h = c.bytes.invariant in
    let next = take_next m c.args.span at c.place-lies.result c.requires.take c.bytes-test.true c.place-lies.ensures.place in
    let low : (k : ℕ) → slice_index c.args.payload.now k < 256 = λ k. let b = c.type_inv.payload k in omega (arith, b) in
    let p = c.take_byte-value.ensures in (
      omega (arith, c.bytes-test.true),
      p.seat ∙ h.1,
      p.event ∙ sym (ap (λ z. (One (end_in z.0), [])) p.event),
      byte_moved _ (take_at m c.args.span at) (take_at m c.args.span (at + 1)) c.args.payload.now (end_in c.args.seat.now.me.0) c.args.buf.now (end_in c.bytes.seat.me.0) c.bytes.buf _ next h.3 low c.take_byte-value.result _ (ap (λ z. end_in z.0) p.event),
    )

-- all bytes are moved
pub returns-clause-agrees : goal.returns-clause-agrees
returns-clause-agrees c =
    let h = c.bytes.invariant in
    let all : c.bytes.at ≡ c.args.span.count = omega (arith, h.0, c.bytes-test.false) in
    subst (λ (at : ℕ). Agrees c.args.words.now.key.start None (take_at c.args.machine.now c.args.span at) (end_in c.bytes.seat.me.0)) all h.3.agrees

pub returns-clause-payload : goal.returns-clause-payload
returns-clause-payload c = let h = c.bytes.invariant in h.3.pays

pub returns-clause-along : goal.returns-clause-along
returns-clause-along c =
    let h = c.bytes.invariant in
    h.3.along
