use Rattle.std.proofs.Common.{rules, sym, refl}
use Rattle.vchan_protocol.specs.declared.op.Op.TheVariants.{Load}
use Rattle.vchan_rule.proofs.Keeps.{strays_at}
use Rattle.vchan_rule.proofs.steps.stray_load.Goals as goal

pub load-requires : goal.load-requires
load-requires g c = let q = c.requires.seat in (q.0, search rules, strays_at _ _ _ _ _ (Load c.args.word) _ _ 0 (λ n. n) (λ n. n) q.1 q.2 (sym q.3) (search rules) refl (λ n. refl) (λ n. refl))
