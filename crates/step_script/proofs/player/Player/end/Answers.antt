use Rattle.std.proofs.Common.{sym, subst}
use Rattle.vchan_core.specs.Page.StandsFor.{StandsFor}
use Rattle.vchan_core.specs.declared.plain.Plain.{Plain}
use Rattle.step_script.proofs.Parts.PlayerLaws.{ended}
use Rattle.step_script.proofs.player.Player.end.Goals as goal

pub returns : goal.returns
returns c = λ core at.
    ended core c.args.self.text.items c.push_ring.new.self.text.items c.push_ring-2.new.self.text.items (c.in_ok-push_ring.ensures.text core at.stands)
    (c.in_ok-push_ring-2.ensures.text core (subst (λ (p : Plain). StandsFor core p) (sym c.push_ring.ensures.page) at.stands))
