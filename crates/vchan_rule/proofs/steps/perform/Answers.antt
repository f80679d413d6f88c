use Rattle.std.proofs.Common.{rules, ◌≡◌, ◌∙◌, slice_index, sym, refl, subst}
use Rattle.vchan_protocol.specs.Table.Apply.{leaves}
use Rattle.vchan_protocol.specs.declared.op.Op.{Op}
use Rattle.vchan_protocol.specs.declared.op.Op.TheVariants.{Load, LoadByte, Store, StoreByte, Or, And, Swap}
use Rattle.vchan_rule.proofs.Keeps.{makes_at}
use Rattle.vchan_rule.proofs.steps.perform.Goals as goal

pub load-requires : goal.load-requires
load-requires g c = let q = c.requires in
    (q.seat.0, search rules, makes_at _ _ _ _ _ (Load c.in-Load.word) _ 0 (λ n. n) (λ n. n) q.seat.1 q.seat.2 q.op.1 (sym c.in-Load.is ∙ q.op.0) (search rules) refl (λ n. refl) (λ n. refl))

pub load-requires-in-LoadByte : goal.load-requires-in-LoadByte
load-requires-in-LoadByte g c = let q = c.requires in
    (q.seat.0, search rules, makes_at _ _ _ _ _ (LoadByte c.in-LoadByte.word c.in-LoadByte.at) _ 0 (λ n. n) (λ n. n) q.seat.1 q.seat.2 q.op.1 (sym c.in-LoadByte.is ∙ q.op.0) (search rules) refl (λ n. refl) (λ n. refl))

pub store-requires : goal.store-requires
store-requires g c = let q = c.requires in
    (q.seat.0, search rules, makes_at _ _ _ _ _ (Store c.in-Store.word c.in-Store.value) _ c.in-Store.value (λ n. c.in-Store.value) (λ n. c.in-Store.value) q.seat.1 q.seat.2 q.op.1 (sym c.in-Store.is ∙ q.op.0) (search rules) refl (λ n. refl) (λ n. refl))

pub store-requires-in-StoreByte : goal.store-requires-in-StoreByte
store-requires-in-StoreByte g c = let q = c.requires in
    let is = c.in-StoreByte.is in
    let value = c.from.result in
    let own : value ≡ slice_index g.E.Event.before.payload c.in-StoreByte.at = c.from.ensures ∙ sym (subst (λ (o : Op). leaves g.E.Event.before.payload o 0 ≡ leaves c.args.payload.now o 0) is (q.payload 0)) in
    (q.seat.0, search rules, makes_at _ _ _ _ _ (StoreByte c.in-StoreByte.word c.in-StoreByte.at) _ value (λ n. value) (λ n. value) q.seat.1 q.seat.2 q.op.1 (sym is ∙ q.op.0) (search rules) own (λ n. own) (λ n. refl))

pub fetch_or-requires : goal.fetch_or-requires
fetch_or-requires g c = let q = c.requires in
    (q.seat.0, search rules, makes_at _ _ _ _ _ (Or c.in-Or.word c.in-Or.bits) _ c.in-Or.bits _ (λ n. n) q.seat.1 q.seat.2 q.op.1 (sym c.in-Or.is ∙ q.op.0) (search rules) refl (λ n. refl) (λ n. refl))

pub fetch_and-requires : goal.fetch_and-requires
fetch_and-requires g c = let q = c.requires in
    (q.seat.0, search rules, makes_at _ _ _ _ _ (And c.in-And.word c.in-And.bits) _ c.in-And.bits _ (λ n. n) q.seat.1 q.seat.2 q.op.1 (sym c.in-And.is ∙ q.op.0) (search rules) refl (λ n. refl) (λ n. refl))

pub swap-requires : goal.swap-requires
swap-requires g c = let q = c.requires in
    (q.seat.0, search rules, makes_at _ _ _ _ _ (Swap c.in-Swap.word c.in-Swap.value) _ c.in-Swap.value (λ n. c.in-Swap.value) (λ n. n) q.seat.1 q.seat.2 q.op.1 (sym c.in-Swap.is ∙ q.op.0) (search rules) refl (λ n. refl) (λ n. refl))
