use Rattle.std.proofs.Common.{ℕ, ap, arith, refl}
use Rattle.vchan_core.specs.declared.totals.Totals.{Totals}
use Rattle.vchan_core.proofs.Page.StepLaws.{counts_on}
use Rattle.vchan_core.proofs.totals.Totals.count_got.Goals as goal

moved : ℕ → ℕ → Totals
moved sent got = record { sent = sent; got = got }

pub returns : goal.returns
unfolding moved
returns c =
    ap (λ (n : ℕ). moved c.args.self.now.sent n)
    (counts_on c.saturating_add-self.result c.args.self.now.got c.from.result c.args.now c.args.before _ _ refl refl (omega arith) (omega arith) c.from.ensures c.saturating_add-self.ensures)
