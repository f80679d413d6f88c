use Rattle.std.proofs.Common.{ap, sym, ◌∙◌, subst}
use Rattle.agent_slots.specs.declared.stage.Stage.{Stage}
use Rattle.agent_slots.specs.Stages.{CanTurn, CanRetire, IsStage, framed, place_of}
use Rattle.agent_slots.specs.Sessions.{AwaitsPage, Begins, session_of}
use Rattle.agent_slots.proofs.BeginLaws.{awaits_page}
use Rattle.agent_slots.proofs.slot.Slot.open_now.Goals as goal

pub open_awaited-stage-requires : goal.open_awaited-stage-requires
open_awaited-stage-requires c = subst CanTurn (sym c.replace.ensures.value ∙ c.in-Awaits.is) c.requires.open

pub returns-clause-frame : goal.returns-clause-frame
returns-clause-frame c =
    let place = place_of c.args.self.now in
    ap (framed place) c.replace-2.ensures.after ∙ (c.open_awaited-stage.ensures.frame place ∙ ap (framed place) (sym (sym c.replace.ensures.value ∙ c.in-Awaits.is)))

pub unreachable-requires : goal.unreachable-requires
unreachable-requires c = awaits_page _ c.requires.awaits (λ number service serving side is. c.in_default.not-Awaits number service serving side (c.replace.ensures.value ∙ is))

pub returns-clause-stage : goal.returns-clause-stage
returns-clause-stage c = λ version stage.
    let P : Stage → Type 0 = IsStage version in
    let was = subst P (sym c.replace.ensures.value ∙ c.in-Awaits.is) stage in
    subst P (sym c.replace-2.ensures.after) (subst (λ v. IsStage v c.open_awaited-stage.result) was.1 (c.open_awaited-stage.ensures.stage was.2))

pub returns-clause-begins : goal.returns-clause-begins
returns-clause-begins c = subst (λ s. Begins AwaitsPage (session_of s)) (sym c.replace-2.ensures.after) c.open_awaited-stage.ensures.begins

pub returns-clause-open : goal.returns-clause-open
returns-clause-open c = subst CanTurn (sym c.replace-2.ensures.after) c.open_awaited-stage.ensures.open

pub returns-clause-retire : goal.returns-clause-retire
returns-clause-retire c = subst CanRetire (sym c.replace-2.ensures.after) c.open_awaited-stage.ensures.retire
