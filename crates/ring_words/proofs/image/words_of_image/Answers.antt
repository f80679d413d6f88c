use Rattle.std.proofs.Common.{◌≡◌, ◌∙◌, ap, arith, length}
use Rattle.ring_words.specs.Image.{page_shown}
use Rattle.ring_words.proofs.ImageLaws.{length_page_shown, list_shown, page_is_shown, page_shows_again, page_shows_around}
use Rattle.ring_words.proofs.image.words_of_image.Goals as goal

-- the words are the shown page
is_shown : (c : goal.After-of) → c.of.result ≡ page_shown c.args.image.now c.of.result.orders
is_shown c =
    page_is_shown c.args.image.now c.of.result c.in_ok-orders.orders c.of.ensures.orders (c.of.ensures.list ∙ list_shown c.args.image.now c.in_ok-orders.orders c.in_ok-list.ensures.items c.header_shown.ensures c.in_ok-extend_from_slice.ensures.items c.in_ok-extend_ring.ensures c.in_ok-extend_ring-2.ensures)

pub of-requires : goal.of-requires
of-requires c =
    c.extend_ring-2.new.list.ok.0 ∙ ap length (list_shown c.args.image.now c.in_ok-orders.orders c.in_ok-list.ensures.items c.header_shown.ensures c.in_ok-extend_from_slice.ensures.items c.in_ok-extend_ring.ensures c.in_ok-extend_ring-2.ensures) ∙ length_page_shown c.args.image.now c.in_ok-orders.orders (omega arith)

pub returns-clause-words : goal.returns-clause-words
returns-clause-words c = is_shown c

pub returns-clause-shows_again : goal.returns-clause-shows_again
returns-clause-shows_again c = page_shows_again c.args.image.now c.of.result c.told-image c.fits-image (is_shown c)

pub returns-clause-round_trip : goal.returns-clause-round_trip
returns-clause-round_trip c = page_shows_around c.args.image.now c.of.result c.told-image c.fits-image (is_shown c)
