use Rattle.std.proofs.Common.{◌≡◌, ◌<◌, ◌≤◌, ℕ, List, take, drop, ◌+◌, ◌-◌, ap, sym, ◌∙◌, subst, arith}
use Rattle.ring_words.specs.Page.{order_of, index_of}
use Rattle.ring_words.specs.PageWords.{PageWords}
use Rattle.ring_words.specs.Rings.{place, size}
use Rattle.ring_words.specs.Overwritten.{overwritten}
use Rattle.ring_words.specs.declared.order.Order.{Order}
use Rattle.ring_words.specs.declared.order.Orders.{Orders}
use Rattle.ring_words.specs.declared.page.Ring.{Ring}
use Rattle.ring_words.specs.declared.page.WordName.TheVariants.{RingByte}
use Rattle.ring_words.proofs.RingLaws.{place_wraps, place_on}
use Rattle.vchan_protocol.specs.Table.Ends.{write_order, written_ring}
use Rattle.vchan_core.specs.OneMachine.Phases.{standing}
use Rattle.vchan_core.specs.WholeCall.EventsMade.{MakesEvents}
use Rattle.vchan_core.proofs.WholeCall.PieceLaws.{put_piece, at_put, put_place}
use Rattle.vchan_core.proofs.machine.Machine.put_piece.Goals as goal

pub returns-clause-events : goal.returns-clause-events
returns-clause-events c = λ count within enough answer buffer.
    let m = c.args.self.now in
    let at = c.args.at in
    let len = c.min-len.result in
    let first = c.place-first.result in
    let order : c.order_of-order.result ≡ write_order (standing m) = c.order_of-order.ensures ∙ ap (λ (r : Ring). order_of m.orders r) c.written_as-ring.ensures in
    let begins : first ≡ put_place m at =
    c.place-first.ensures.place ∙ place_wraps (m.prod + at) c.order_of-order.result ∙ ap (λ (o : Order). place (m.prod + at) o) order in
    let fits : first + len ≤ size (write_order (standing m)) = subst (λ (o : Order). first + len ≤ size o) order (omega (arith, c.size.ensures.size, c.place-first.ensures.within)) in
    let places : (j : ℕ) → j < len → put_place m (at + j) ≡ first + j = λ j less.
    let same : m.prod + (at + j) ≡ m.prod + at + j = omega arith in
    ap (λ (x : ℕ). place x (write_order (standing m))) same ∙ place_on (m.prod + at) j (write_order (standing m)) (omega (arith, begins, fits))
    ∙ ap (λ (x : ℕ). x + j) (sym begins) in
    let back : at + len - at ≡ len = omega arith in
    let list : c.store_bytes.new.self.list ≡ overwritten c.args.words.now.list (index_of m.orders (RingByte (written_ring m.role) first)) (take len (drop at c.args.payload.now)) =
    ap (λ (w : PageWords). w.list) c.store_bytes.ensures.words
    ∙ ap (λ (o : Orders). overwritten c.args.words.now.list (index_of o (RingByte c.written_as-ring.result first)) (take (at + len - at) (drop at c.args.payload.now))) c.requires.orders
    ∙ ap (λ (r : Ring). overwritten c.args.words.now.list (index_of m.orders (RingByte r first)) (take (at + len - at) (drop at c.args.payload.now))) c.written_as-ring.ensures
    ∙ ap (λ (x : ℕ). overwritten c.args.words.now.list (index_of m.orders (RingByte (written_ring m.role) first)) (take x (drop at c.args.payload.now))) back in
    let moved = put_piece m c.args.words.now.list c.args.payload.now buffer at count len first answer (omega arith) enough places in
    subst (λ (l : List ℕ). MakesEvents len m.orders c.args.payload.now (at_put m at count answer) c.args.words.now.list buffer (at_put m (at + len) count answer) l buffer) (sym list) moved
