use Rattle.std.proofs.Common.{◌∙◌, sym, refl, ap}
use Rattle.ring_words.specs.declared.order.Orders.{Orders}
use Rattle.ring_words.specs.Page.{index_of}
use Rattle.vchan_protocol.specs.declared.op.Op.TheVariants.{LoadByte}
use Rattle.vchan_rule.proofs.Keeps.{makes_at}
use Rattle.vchan_rule.proofs.steps.take_byte.Goals as goal

pub load-requires : goal.load-requires
load-requires g c = let q = c.requires in
    (q.seat.0, q.number.1, makes_at _ _ _ _ _ (LoadByte c.args.word c.args.at) _ 0 (λ n. n) (λ n. n) q.seat.1 q.seat.2 q.op.1 q.op.0 (q.number.0 ∙ ap (λ (o : Orders). index_of o c.args.word) (sym q.page.1)) refl (λ n. refl) (λ n. refl))
