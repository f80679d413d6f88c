use Rattle.std.proofs.Common.{rules, sym, refl}
use Rattle.vchan_protocol.specs.declared.op.Op.TheVariants.{Store}
use Rattle.vchan_rule.proofs.Keeps.{strays_at}
use Rattle.vchan_rule.proofs.steps.stray_store.Goals as goal

pub store-requires : goal.store-requires
store-requires g c = let q = c.requires.seat in (q.0, search rules, strays_at _ _ _ _ _ (Store c.args.word c.args.value) _ _ c.args.value (λ n. c.args.value) (λ n. c.args.value) q.1 q.2 (sym q.3) (search rules) refl (λ n. refl) (λ n. refl))
