use Rattle.ring_words.proofs.ImageLaws.{image_put}
use Rattle.ring_words.proofs.PieceLaws.{zero_at}
use Rattle.ring_words.proofs.image.page_image.Goals as goal

pub returns : goal.returns
returns c =
    image_put c.args.words.now _ _ _ _ c.put_ring-2.array_long (zero_at 4096) c.put_header.ensures c.put_ring.ensures c.put_ring-2.ensures
