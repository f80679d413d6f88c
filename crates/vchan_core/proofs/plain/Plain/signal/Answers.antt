use Rattle.std.proofs.Common.{ℕ, List, ap, refl, ◌∙◌, slice_set}
use Rattle.ring_words.specs.Page.{index_of}
use Rattle.ring_words.specs.declared.page.WordName.{WordName}
use Rattle.ring_words.specs.PageWords.{PageWords}
use Rattle.ring_words.specs.declared.order.Orders.{Orders}
use Rattle.vchan_protocol.specs.declared.op.Op.TheVariants.{Store}
use Rattle.vchan_protocol.specs.Table.Ends.{peer_pending}
use Rattle.vchan_core.proofs.Page.TurnLaws.{stands_strayed}
use Rattle.vchan_protocol.proofs.Always.InvariantSteps.{invariant_strayed}
use Rattle.vchan_core.proofs.plain.Plain.signal.Goals as goal

pub returns-clause-stands : goal.returns-clause-stands
returns-clause-stands c = λ core h. stands_strayed core c.args.who (Store (peer_pending c.args.who) 1) c.args.self.now c.turn.new.self _ h (record {
  idle = c.turn.ensures.idle;
  stands = c.turn.ensures.standing;
  moved = c.turn.ensures.moved;
  turned = c.turn.ensures.turned;
  other = c.turn.ensures.other;
  words =
      ap (λ (w : PageWords). w.list) c.store.ensures.words
      ∙ ap (λ (w : WordName). slice_set c.turn.new.self.words.list (index_of c.turn.new.self.words.orders w) 1) c.peer_pending.ensures
      ∙ ap (λ (o : Orders). slice_set c.turn.new.self.words.list (index_of o (peer_pending c.args.who)) 1) c.turn.ensures.orders
      ∙ ap (λ (l : List ℕ). slice_set l (index_of c.args.self.now.words.orders (peer_pending c.args.who)) 1) c.turn.ensures.words;
  orders = ap (λ (w : PageWords). w.orders) c.store.ensures.words ∙ c.turn.ensures.orders;
  ends = refl;
})

pub returns-clause-invariant : goal.returns-clause-invariant
returns-clause-invariant c = λ core h kept. invariant_strayed core c.args.who (Store (peer_pending c.args.who) 1) kept
