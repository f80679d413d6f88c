use Rattle.std.proofs.Common.{◌∙◌, sym, refl, ap}
use Rattle.ring_words.specs.declared.order.Orders.{Orders}
use Rattle.ring_words.specs.Page.{index_of}
use Rattle.vchan_protocol.specs.declared.op.Op.TheVariants.{StoreByte}
use Rattle.vchan_rule.proofs.Keeps.{makes_at}
use Rattle.vchan_rule.proofs.steps.put_byte.Goals as goal

pub store-requires : goal.store-requires
store-requires g c = let q = c.requires in
    (q.seat.0, q.number.1, makes_at _ _ _ _ _ (StoreByte c.args.word c.args.at) _ c.from.result (λ n. c.from.result) (λ n. c.from.result) q.seat.1 q.seat.2 q.op.1 q.op.0 (q.number.0 ∙ ap (λ (o : Orders). index_of o c.args.word) (sym q.page.1)) (c.from.ensures ∙ sym q.payload) (λ n. c.from.ensures ∙ sym q.payload) (λ n. refl))
