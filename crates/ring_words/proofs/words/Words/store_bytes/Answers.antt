use Rattle.std.proofs.Common.{◌≡◌, ◌∙◌, ap, sym, take, ℕ, List, length, slice_set, arith, ◌+◌}
use Rattle.std.proofs.lemmas.List.{take_all}
use Rattle.ring_words.specs.Page.{word_count, index_of}
use Rattle.ring_words.specs.PageWords.{PageWords}
use Rattle.ring_words.specs.Overwritten.{overwritten}
use Rattle.ring_words.specs.declared.order.Orders.{Orders}
use Rattle.ring_words.specs.declared.page.WordName.TheVariants.{RingByte}
use Rattle.ring_words.proofs.OverwrittenLaws.{overwritten_more, length_overwritten}
use Rattle.ring_words.proofs.words.Words.store_bytes.Goals as goal

-- once the loop is done, all bytes are stored
all_stored : (c : goal.After-loop-i) → c.loop-i.self-inside.list.items ≡ overwritten c.self.inside.list.items c.word-first.result c.args.bytes.now
all_stored c = c.loop-i.invariant.stored ∙ ap (λ (l : List ℕ). overwritten c.self.inside.list.items c.word-first.result l) (take_all c.loop-i.i c.args.bytes.now (omega arith))

as_many : (c : goal.After-loop-i) → length c.loop-i.self-inside.list.items ≡ word_count c.loop-i.self-inside.orders
as_many c =
    let before : length c.self.inside.list.items ≡ word_count c.self.inside.orders = omega (arith, c.self.invariant) in
    ap (λ (l : List ℕ). length l) (all_stored c) ∙ length_overwritten c.self.inside.list.items c.word-first.result c.args.bytes.now ∙ before
    ∙ ap word_count (sym c.loop-i.invariant.orders)

pub invariant_of-self : goal.invariant_of-self
invariant_of-self c = omega (arith, as_many c)

pub loop-i-preserved : goal.loop-i-preserved
loop-i-preserved c = record {
  orders = c.loop-i.invariant.orders;
  stored =
      ap (λ (l : List ℕ). slice_set l (c.word-first.result + c.loop-i.i) c.from.result) c.loop-i.invariant.stored
      ∙ ap (λ (v : ℕ). slice_set (overwritten c.self.inside.list.items c.word-first.result (take c.loop-i.i c.args.bytes.now)) (c.word-first.result + c.loop-i.i) v) c.from.ensures
      ∙ sym (overwritten_more c.self.inside.list.items c.word-first.result c.args.bytes.now c.loop-i.i c.loop-i-test.true);
}

pub returns-clause-words : goal.returns-clause-words
returns-clause-words c =
    let first : c.word-first.result ≡ index_of c.args.self.now.orders (RingByte c.args.ring c.args.at) =
    c.word-first.ensures.number ∙ ap (λ (o : Orders). index_of o (RingByte c.args.ring c.args.at)) (c.new.ensures ∙ ap (λ (w : PageWords). w.orders) c.self.view_is) in
    let orders : c.loop-i.self-inside.orders ≡ c.args.self.now.orders = c.loop-i.invariant.orders ∙ ap (λ (w : PageWords). w.orders) c.self.view_is in
    let list : c.loop-i.self-inside.list.items ≡ overwritten c.args.self.now.list (index_of c.args.self.now.orders (RingByte c.args.ring c.args.at)) c.args.bytes.now =
    all_stored c ∙ ap (λ (w : PageWords). overwritten w.list c.word-first.result c.args.bytes.now) c.self.view_is
    ∙ ap (λ (k : ℕ). overwritten c.args.self.now.list k c.args.bytes.now) first in
    λ k. record { orders = orders k; list = list k }

pub returns-clause-count : goal.returns-clause-count
returns-clause-count c = as_many c
