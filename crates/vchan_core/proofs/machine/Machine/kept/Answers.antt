use Rattle.std.proofs.Common.{◌≡◌, ◌∙◌, Option, rules, subst, sym}
use Rattle.vchan_core.specs.declared.phase.Phase.{Phase}
use Rattle.vchan_core.specs.OneMachine.Keeping.{kept_of, IsShortAt}
use Rattle.vchan_core.proofs.OneMachine.KeepLaws.{same_kept}
use Rattle.vchan_core.proofs.machine.Machine.kept.Goals as goal
use Rattle.vchan_core.proofs.machine.Machine.kept.Goals.{in-None, in-Some}

pub returns-clause-alone : goal.returns-clause-alone
returns-clause-alone c =
    let short_own : IsShortAt c.args.self.now.phase = elim c.match-self.branch [ in-None w ↦ subst (λ (o : Option Phase). IsShortAt o) (sym w.in-None.is) tt | in-Some w ↦ subst (λ (o : Option Phase). IsShortAt o) (sym w.in-Some.is) w.of-at.ensures.short ] in
    λ other short is. let own : kept_of other ≡ kept_of c.args.self.now = is ∙ search rules in same_kept other c.args.self.now short short_own own
