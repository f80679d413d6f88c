use Rattle.std.proofs.Common.{◌≡◌, ℕ, ap, ◌∙◌, arith, slice_index}
use Rattle.ring_words.specs.Page.{index_of}
use Rattle.ring_words.specs.declared.order.Orders.{Orders}
use Rattle.ring_words.specs.declared.page.Ring.{Ring}
use Rattle.ring_words.specs.declared.page.WordName.{WordName}
use Rattle.vchan_protocol.specs.Table.Ends.{prod_word, read_ring, low32}
use Rattle.vchan_core.specs.OneMachine.Phases.{standing}
use Rattle.vchan_protocol.proofs.Table.Counted.{has_look_read}
use Rattle.vchan_core.proofs.WholeCall.LookLaws.{read_next, read_is}
use Rattle.vchan_core.proofs.machine.Machine.read_look.Goals as goal

pub returns-clause-events : goal.returns-clause-events
returns-clause-events c = λ payload buffer.
    let m = c.args.self.now in
    let e = standing m in
    let n = c.args.most in
    let list = c.args.words.now.list in
    let value : c.load-prod.result ≡ slice_index list (index_of m.orders (prod_word (read_ring m.role))) =
    c.load-prod.ensures.value ∙ ap (λ (o : Orders). slice_index list (index_of o c.prod_word.result)) c.requires.orders
    ∙ ap (λ (w : WordName). slice_index list (index_of m.orders w)) (c.prod_word.ensures ∙ ap (λ (r : Ring). prod_word r) c.read_as.ensures) in
    c.seen.ensures.events (prod_word (read_ring m.role)) (λ v. read_next e n (low32 v)) list payload buffer
    (read_is e n) (has_look_read m.orders m.role)
    (c.read_found-next.ensures.plan ∙ ap (λ (v : ℕ). read_next e n v) (c.low32.ensures ∙ ap (λ (v : ℕ). low32 v) value))
    (omega (arith, c.read_found-next.ensures.payload_left)) c.read_found-next.ensures.buffer_left
