use Rattle.std.proofs.Common.{ap, sym, ◌∙◌, subst}
use Rattle.agent_slots.specs.Stages.{ForServing, CanRetire, IsStage, framed, is_session, place_of}
use Rattle.agent_slots.specs.declared.stage.Stage.{Stage}
use Rattle.ring_words.specs.declared.page.Role.TheVariants.{Client}
use Rattle.agent_slots.proofs.BeginLaws.{unused_end}
use Rattle.agent_slots.proofs.slot.Slot.serve.Goals as goal

pub returns-clause-frame : goal.returns-clause-frame
returns-clause-frame c =
    let place = place_of c.args.self.now in
    let used = ForServing c.args.number c.args.service.value in
    ap (framed place) c.replace-2.ensures.after ∙ (c.serve_unused-stage.ensures.frame place ∙ ap (λ s. record (framed place s) { used = used }) (sym (sym c.replace.ensures.value ∙ c.in-Unused.is)))

pub unreachable-requires : goal.unreachable-requires
unreachable-requires c = let h = unused_end Client _ c.requires.unused in c.in_default.not-Unused h.0 (c.replace.ensures.value ∙ h.1)

pub returns-clause-stage : goal.returns-clause-stage
returns-clause-stage c = subst (λ (s : Stage). IsStage c.args.serving.answering.own s) (sym c.replace-2.ensures.after) c.serve_unused-stage.ensures.stage

pub returns-clause-session : goal.returns-clause-session
returns-clause-session c = ap is_session c.replace-2.ensures.after ∙ c.serve_unused-stage.ensures.session

pub returns-clause-retire : goal.returns-clause-retire
returns-clause-retire c = subst CanRetire (sym c.replace-2.ensures.after) c.serve_unused-stage.ensures.retire
