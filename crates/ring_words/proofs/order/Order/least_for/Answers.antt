use Rattle.std.proofs.Common.{◌<◌, ◌^◌, arith, below_more}
use Rattle.ring_words.specs.Rings.{size}
use Rattle.ring_words.proofs.ChoiceLaws.{least_order}
use Rattle.ring_words.proofs.order.Order.least_for.Goals as goal

pub loop-number-preserved : goal.loop-number-preserved
unfolding size
loop-number-preserved c =
    let above : 2 ^ c.loop-number.number < c.args.bytes = omega (arith, c.size.ensures.size) in
    below_more _ _ c.loop-number.invariant (λ _. above)

pub returns-then-bytes-size : goal.returns-then-bytes-size
unfolding size
returns-then-bytes-size c =
    least_order c.args.bytes c.loop-number.number c.loop-number.auto.number
    (omega (arith, c.size.ensures.size))
    c.loop-number.invariant
