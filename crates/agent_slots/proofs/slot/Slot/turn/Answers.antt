use Rattle.std.proofs.Common.{◌≡◌, ap, sym, ◌∙◌, subst, Some}
use Rattle.std.specs.Prelude.{IfNone}
use Rattle.agent_slots.specs.Stages.{Frame, told_of, frame_of, IsStage}
use Rattle.agent_slots.specs.declared.slot.Slot.{Slot}
use Rattle.agent_slots.specs.Sessions.{TakesTurn, IsOver, session_of}
use Rattle.agent_slots.proofs.SessionLaws.{turn_open, ends_after}
use Rattle.agent_slots.proofs.slot.Slot.turn.Goals as goal

pub returns-then-is_abandoned-clause-frame : goal.returns-then-is_abandoned-clause-frame
returns-then-is_abandoned-clause-frame c = ap frame_of c.is_abandoned.ensures ∙ c.turn_session.ensures.frame

pub returns-else-is_abandoned-clause-frame : goal.returns-else-is_abandoned-clause-frame
returns-else-is_abandoned-clause-frame c = ap frame_of c.is_abandoned.ensures ∙ c.turn_session.ensures.frame

pub returns-else-is_abandoned-clause-stage : goal.returns-else-is_abandoned-clause-stage
returns-else-is_abandoned-clause-stage c = λ version stage.
    let P : Slot → Type 0 = λ s. IsStage version s.stage in
    subst P (sym c.is_abandoned.ensures) (c.in_ok-turn_session.ensures.stage version stage)

pub returns-else-is_abandoned-clause-turns : goal.returns-else-is_abandoned-clause-turns
returns-else-is_abandoned-clause-turns c =
    let old = session_of c.args.self.now.stage in
    subst (λ (s : Slot). TakesTurn old (session_of s.stage)) (sym c.is_abandoned.ensures) (subst (λ o. IfNone o (TakesTurn old (session_of c.turn_session.new.self.stage))) c.in-None.is c.in_ok-turn_session.ensures.turns)

pub returns-in-Some-clause-frame : goal.returns-in-Some-clause-frame
returns-in-Some-clause-frame c = c.end.ensures.frame ∙ c.turn_session.ensures.frame

pub returns-in-Some-clause-stage : goal.returns-in-Some-clause-stage
returns-in-Some-clause-stage c = λ version stage. c.end.ensures.stage version (c.in_ok-turn_session.ensures.stage version stage)

pub returns-in-Some-clause-told : goal.returns-in-Some-clause-told
returns-in-Some-clause-told c = subst (λ (f : Frame). told_of f.held.place f.used ≡ Some c.end.result) c.turn_session.ensures.frame c.end.ensures.told

pub returns-in-Some-clause-turns : goal.returns-in-Some-clause-turns
returns-in-Some-clause-turns c =
    let old = c.args.self.now.stage in
    IsOver (ends_after (session_of old) (session_of c.turn_session.new.self.stage) (session_of c.end.new.self.stage) (turn_open old c.requires.open) c.in_ok-turn_session.ensures.kept c.end.ensures.ends)
