use Rattle.std.proofs.Common.{arith}
use Rattle.ring_words.specs.Image.{bytes_piece}
use Rattle.ring_words.proofs.PieceLaws.{puts_one}
use Rattle.ring_words.proofs.image.put_bytes.Goals as goal

pub returns : goal.returns
returns c =
    puts_one (bytes_piece c.args.offset c.args.words.now) c.args.image.now c.loop-at.image c.loop-at.invariant.same_length
    (λ k h. c.loop-at.invariant.inside k (omega arith))
    (λ at o. c.loop-at.invariant.outside at (grind arith))
