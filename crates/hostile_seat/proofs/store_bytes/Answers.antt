use Rattle.std.proofs.Common.{◌+◌, ◌%◌, ◌^◌, ◌<◌, take, sym, ap, subst, ◌∙◌, arith}
use Rattle.ring_words.specs.Rings.{place, size}
use Rattle.ring_words.specs.Page.{order_of}
use Rattle.ring_words.specs.declared.order.Order.{Order}
use Rattle.ring_words.specs.declared.order.Orders.{Orders}
use Rattle.ring_words.specs.declared.page.Ring.{Ring}
use Rattle.ring_words.specs.declared.page.WordName.TheVariants.{RingByte}
use Rattle.vchan_protocol.specs.declared.op.Op.TheVariants.{Store}
use Rattle.vchan_protocol.specs.declared.side.Side.{Side}
use Rattle.vchan_protocol.specs.Hostile.Turned.{strays}
use Rattle.hostile_seat.specs.Hostile.{byte_stores}
use Rattle.hostile_seat.proofs.ByteLaws.{stored_more, along_orders}
use Rattle.hostile_seat.proofs.store_bytes.Goals as goal

pub store-requires : goal.store-requires
store-requires c =
    let orders = ap (λ (s : Side). s.orders) c.bytes.invariant.2 ∙ along_orders c.args.end.now.side (byte_stores c.args.end.now.side.role c.args.end.now.side.orders c.args.index (take c.bytes.at c.args.bytes.now)) in
    subst (λ (o : Orders). c.place.result < size (order_of o c.args.ring)) (sym orders) (subst (λ (o : Order). c.place.result < size o) c.requires.order c.place.ensures.within)

pub bytes-preserved : goal.bytes-preserved
bytes-preserved c =
    let order = c.requires.order ∙ ap (λ (r : Ring). order_of c.args.end.now.side.orders r) c.requires.ring in
    let lies = c.place.ensures.place ∙ ap (λ (o : Order). place ((c.args.index + c.bytes.at) % 2 ^ 32) o) order in (
      omega (arith, c.bytes-test.true),
      c.store.ensures.same ∙ c.bytes.invariant.1,
      c.store.ensures.event ∙ (λ i. strays c.bytes.end.side (Store (RingByte (c.requires.ring i) c.place.result) c.from.result) 0)
          ∙ stored_more c.args.end.now.side c.bytes.end.side c.args.index c.bytes.at c.from.result c.place.result c.args.bytes.now c.bytes.invariant.2 c.bytes-test.true c.from.ensures lies,
    )
