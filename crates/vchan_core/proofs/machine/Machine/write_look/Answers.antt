use Rattle.std.proofs.Common.{◌≡◌, ℕ, ap, ◌∙◌, arith, slice_index}
use Rattle.ring_words.specs.Page.{index_of}
use Rattle.ring_words.specs.declared.order.Orders.{Orders}
use Rattle.ring_words.specs.declared.page.Ring.{Ring}
use Rattle.ring_words.specs.declared.page.WordName.{WordName}
use Rattle.vchan_protocol.specs.Table.Ends.{cons_word, written_ring, low32}
use Rattle.vchan_core.specs.OneMachine.Phases.{standing}
use Rattle.vchan_protocol.proofs.Table.Counted.{has_look_write}
use Rattle.vchan_core.proofs.WholeCall.LookLaws.{write_next, write_is}
use Rattle.vchan_core.proofs.machine.Machine.write_look.Goals as goal

pub returns-clause-events : goal.returns-clause-events
returns-clause-events c = λ payload buffer.
    let m = c.args.self.now in
    let e = standing m in
    let n = c.args.len in
    let list = c.args.words.now.list in
    let value : c.load-cons.result ≡ slice_index list (index_of m.orders (cons_word (written_ring m.role))) =
    c.load-cons.ensures.value ∙ ap (λ (o : Orders). slice_index list (index_of o c.cons_word.result)) c.requires.orders
    ∙ ap (λ (w : WordName). slice_index list (index_of m.orders w)) (c.cons_word.ensures ∙ ap (λ (r : Ring). cons_word r) c.written_as.ensures) in
    c.seen.ensures.events (cons_word (written_ring m.role)) (λ v. write_next e n (low32 v)) list payload buffer
    (write_is e n) (has_look_write m.orders m.role)
    (c.write_found-next.ensures.plan ∙ ap (λ (v : ℕ). write_next e n v) (c.low32.ensures ∙ ap (λ (v : ℕ). low32 v) value))
    c.write_found-next.ensures.payload_left (omega (arith, c.write_found-next.ensures.buffer_left))
