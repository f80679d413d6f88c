use Rattle.std.proofs.Common.{arith}
use Rattle.std.proofs.lemmas.List.{length-take}
use Rattle.ring_words.proofs.RingLaws.{size_within}
use Rattle.hostile_seat.proofs.Hostile.say.Goals as goal

pub put-requires-clause-few : goal.put-requires-clause-few
put-requires-clause-few c =
    let within = size_within c.order_of-order.result in
    omega (arith, length-take c.said-count.result c.args.payload.now, c.said-count.ensures, c.room-free.ensures.within, within.1)
