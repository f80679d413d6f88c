use Rattle.std.proofs.Common.{arith}
use Rattle.ring_words.proofs.ImageLaws.{puts_ring, puts_no_ring}
use Rattle.ring_words.proofs.RingLaws.{size_within}
use Rattle.ring_words.specs.Page.{order_of}
use Rattle.ring_words.proofs.image.put_ring.Goals as goal

pub returns-in_default : goal.returns-in_default
returns-in_default c =
    puts_no_ring c.args.words.now c.args.ring c.args.image.now (λ offset e. c.in_default.not-Some offset (cc))

pub word-first-requires : goal.word-first-requires
word-first-requires c =
    omega (arith, size_within (order_of c.new-layout.result.orders c.args.ring))

pub returns : goal.returns
returns c =
    puts_ring c.args.words.now c.args.ring c.in-Some.offset c.word-first.result _ _ _
    c.orders.ensures.count
    (cc)
    (cc)
    (cc)
    c.put_bytes.ensures
