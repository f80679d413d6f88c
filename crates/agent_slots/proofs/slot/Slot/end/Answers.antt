use Rattle.std.proofs.Common.{ap, sym, ◌∙◌, subst}
use Rattle.agent_slots.specs.Stages.{framed, place_of, IsStage}
use Rattle.agent_slots.specs.Sessions.{ComesToItsEnd, session_of}
use Rattle.agent_slots.specs.declared.stage.Stage.{Stage}
use Rattle.agent_slots.proofs.slot.Slot.end.Goals as goal

pub returns-clause-frame : goal.returns-clause-frame
returns-clause-frame c =
    let place = place_of c.args.self.now in
    ap (framed place) c.replace.ensures.after ∙ (c.ended.ensures.frame place ∙ ap (framed place) c.replace-stage.ensures.value)

pub returns-clause-stage : goal.returns-clause-stage
returns-clause-stage c = λ version stage.
    let P : Stage → Type 0 = IsStage version in
    subst P (sym c.replace.ensures.after) (c.ended.ensures.stage version (subst P (sym c.replace-stage.ensures.value) stage))

pub returns-clause-ends : goal.returns-clause-ends
returns-clause-ends c =
    subst (λ (s : Stage). ComesToItsEnd (session_of c.args.self.now.stage) (session_of s)) (sym c.replace.ensures.after)
    (subst (λ (s : Stage). ComesToItsEnd (session_of s) (session_of c.ended.result)) c.replace-stage.ensures.value c.ended.ensures.ends)
