use Rattle.std.proofs.Common.{◌≡◌, ◌<◌, ◌≤◌, ℕ, List, length, take, drop, ◌+◌, ◌-◌, ◌++◌, ap, sym, ◌∙◌, subst, arith}
use Rattle.std.proofs.lemmas.List.{length-take, length-drop}
use Rattle.ring_words.specs.Page.{order_of, index_of}
use Rattle.ring_words.specs.Rings.{place, size}
use Rattle.ring_words.specs.Overwritten.{overwritten, low_bytes}
use Rattle.ring_words.specs.declared.order.Order.{Order}
use Rattle.ring_words.specs.declared.order.Orders.{Orders}
use Rattle.ring_words.specs.declared.page.Ring.{Ring}
use Rattle.ring_words.specs.declared.page.WordName.TheVariants.{RingByte}
use Rattle.ring_words.proofs.RingLaws.{place_wraps, place_on}
use Rattle.ring_words.proofs.OverwrittenLaws.{overwritten_is, length_low_bytes}
use Rattle.vchan_protocol.specs.Table.Ends.{read_order, read_ring}
use Rattle.vchan_core.specs.OneMachine.Phases.{standing}
use Rattle.vchan_core.specs.WholeCall.EventsMade.{MakesEvents}
use Rattle.vchan_core.proofs.WholeCall.PieceLaws.{take_piece, at_take, take_place}
use Rattle.vchan_core.proofs.machine.Machine.take_piece.Goals as goal

pub returns-clause-events : goal.returns-clause-events
returns-clause-events c = λ count within enough answer payload.
    let m = c.args.self.now in
    let at = c.args.at in
    let len = c.min-len.result in
    let first = c.place-first.result in
    let list = c.args.words.now.list in
    let buffer = c.args.buf.now in
    let order : c.order_of-order.result ≡ read_order (standing m) = c.order_of-order.ensures ∙ ap (λ (r : Ring). order_of m.orders r) c.read_as-ring.ensures in
    let begins : first ≡ take_place m at =
    c.place-first.ensures.place ∙ place_wraps (m.cons + at) c.order_of-order.result ∙ ap (λ (o : Order). place (m.cons + at) o) order in
    let fits : first + len ≤ size (read_order (standing m)) = subst (λ (o : Order). first + len ≤ size o) order (omega (arith, c.size.ensures.size, c.place-first.ensures.within)) in
    let places : (j : ℕ) → j < len → take_place m (at + j) ≡ first + j = λ j less.
    let same : m.cons + (at + j) ≡ m.cons + at + j = omega arith in
    ap (λ (x : ℕ). place x (read_order (standing m))) same ∙ place_on (m.cons + at) j (read_order (standing m)) (omega (arith, begins, fits))
    ∙ ap (λ (x : ℕ). x + j) (sym begins) in
    let index = index_of m.orders (RingByte (read_ring m.role) first) in
    let back : at + len - at ≡ len = omega arith in
    let room : length (take (at + len - at) (drop at buffer)) ≡ len = omega (arith, length-take (at + len - at) (drop at buffer), length-drop at buffer, c.requires.buf) in
    let loaded : c.load_bytes.new.buf ≡ low_bytes list index len =
    c.load_bytes.ensures
    ∙ ap (λ (n : ℕ). low_bytes list (index_of c.args.words.now.orders (RingByte c.read_as-ring.result first)) n) room
    ∙ ap (λ (o : Orders). low_bytes list (index_of o (RingByte c.read_as-ring.result first)) len) c.requires.orders
    ∙ ap (λ (r : Ring). low_bytes list (index_of m.orders (RingByte r first)) len) c.read_as-ring.ensures in
    let as_many = length_low_bytes list index len in
    let overwritten_so : take at buffer ++ (c.load_bytes.new.buf ++ drop (at + len - at) (drop at buffer)) ≡ overwritten buffer at (low_bytes list index len) =
    ap (λ (l : List ℕ). take at buffer ++ (l ++ drop (at + len - at) (drop at buffer))) loaded
    ∙ ap (λ (n : ℕ). take at buffer ++ (low_bytes list index len ++ drop n (drop at buffer))) (back ∙ sym as_many)
    ∙ sym (overwritten_is buffer at (low_bytes list index len) (omega (arith, as_many, c.requires.buf))) in
    let moved = take_piece m list payload buffer at count len first answer (omega arith) enough places in
    subst (λ (b : List ℕ). MakesEvents len m.orders payload (at_take m at count answer) list buffer (at_take m (at + len) count answer) list b) (sym overwritten_so) moved
