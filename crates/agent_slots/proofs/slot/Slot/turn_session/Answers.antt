use Rattle.std.proofs.Common.{ap, sym, ◌∙◌, subst}
use Rattle.list_laws.proofs.Results.{on_ok}
use Rattle.vchan_rule.specs.Seated.{view}
use Rattle.agent_slots.specs.declared.stage.Stage.{Stage}
use Rattle.agent_slots.specs.Slots.{Held}
use Rattle.agent_slots.specs.Sides.{is_late_side}
use Rattle.agent_slots.specs.Stages.{ForCall, ForServing, Frame, framed, place_of, IsStage}
use Rattle.agent_slots.proofs.SideLaws.{same_held, calls_on, serves_on}
use Rattle.agent_slots.specs.Sessions.{Begins, TakesTurn, session_of}
use Rattle.agent_slots.proofs.SessionLaws.{call_takes, serving_takes, page_takes, told_then, begins_keeps, call_keeps, serving_keeps_on}
use Rattle.agent_slots.proofs.slot.Slot.turn_session.Goals as goal

pub returns-in-Calls-clause-frame : goal.returns-in-Calls-clause-frame
returns-in-Calls-clause-frame c =
    let place = place_of c.open_offered.new.self in
    let used : Held → Frame = λ h. record { held = h; used = ForCall c.in-Calls.number c.in-Calls.input.value.items; late = is_late_side c.in-Calls.side } in
    ap used (same_held c.in-Calls.side place (view c.in-Calls.session.end) (view c.turn_half.new.session.end) c.turn_half.ensures.end.0 c.turn_half.ensures.end.1)
    ∙ (ap (framed place) (sym c.in-Calls.is) ∙ c.open_offered.ensures.frame)

pub returns-in-Calls-clause-stage : goal.returns-in-Calls-clause-stage
returns-in-Calls-clause-stage c = λ version stage.
    let P : Stage → Type 0 = IsStage version in
    calls_on version c.in-Calls.number c.in-Calls.input c.in-Calls.side c.in-Calls.session c.turn_half.new.session c.turn_half.result
    c.turn_half.ensures.same c.turn_half.ensures.work c.turn_half.ensures.stands (subst P c.in-Calls.is (c.open_offered.ensures.stage version stage))

pub returns-in-Serves-clause-frame : goal.returns-in-Serves-clause-frame
returns-in-Serves-clause-frame c =
    let place = place_of c.open_offered.new.self in
    let used : Held → Frame = λ h. record { held = h; used = ForServing c.in-Serves.number c.in-Serves.service.value; late = is_late_side c.in-Serves.side } in
    ap used (same_held c.in-Serves.side place (view c.in-Serves.session.end) (view c.turn_half-in-Serves.new.session.end) c.turn_half-in-Serves.ensures.end.0 c.turn_half-in-Serves.ensures.end.1)
    ∙ (ap (framed place) (sym c.in-Serves.is) ∙ c.open_offered.ensures.frame)

pub returns-in-Serves-clause-stage : goal.returns-in-Serves-clause-stage
returns-in-Serves-clause-stage c = λ version stage.
    let P : Stage → Type 0 = IsStage version in
    serves_on version c.in-Serves.number c.in-Serves.service c.in-Serves.side c.in-Serves.session c.turn_half-in-Serves.new.session c.turn_half-in-Serves.result
    c.turn_half-in-Serves.ensures.same c.turn_half-in-Serves.ensures.work c.turn_half-in-Serves.ensures.stands (subst P c.in-Serves.is (c.open_offered.ensures.stage version stage))

pub returns-in-Calls-clause-turns : goal.returns-in-Calls-clause-turns
returns-in-Calls-clause-turns c =
    let began = subst (λ s. Begins (session_of c.args.self.now.stage) (session_of s)) c.in-Calls.is c.open_offered.ensures.begins in
    told_then c.turn_half.result c.turn_half.new.session.half.replies.outcome _ _ (call_takes (session_of c.args.self.now.stage) c.in-Calls.session c.turn_half.new.session began) c.turn_half.ensures.outcome c.turn_half.ensures.turns

pub returns-in-Serves-clause-turns : goal.returns-in-Serves-clause-turns
returns-in-Serves-clause-turns c =
    let began = subst (λ s. Begins (session_of c.args.self.now.stage) (session_of s)) c.in-Serves.is c.open_offered.ensures.begins in
    told_then c.turn_half-in-Serves.result c.turn_half-in-Serves.new.session.half.answering.outcome _ _ (serving_takes (session_of c.args.self.now.stage) c.in-Serves.session c.turn_half-in-Serves.new.session began) c.turn_half-in-Serves.ensures.outcome
    c.turn_half-in-Serves.ensures.turns

pub returns-in-Awaits-clause-turns : goal.returns-in-Awaits-clause-turns
returns-in-Awaits-clause-turns c =
    let began = subst (λ s. Begins (session_of c.args.self.now.stage) (session_of s)) c.in-Awaits.is c.open_offered.ensures.begins in
    subst (λ s. TakesTurn (session_of c.args.self.now.stage) (session_of s)) (sym c.in-Awaits.is) (page_takes (session_of c.args.self.now.stage) began)

pub returns-in-Calls-clause-kept : goal.returns-in-Calls-clause-kept
returns-in-Calls-clause-kept c =
    let began = subst (λ s. Begins (session_of c.args.self.now.stage) (session_of s)) c.in-Calls.is c.open_offered.ensures.begins in
    on_ok c.turn_half.result _ _ (call_keeps (session_of c.args.self.now.stage) c.in-Calls.session c.turn_half.new.session began) c.turn_half.ensures.kept

pub returns-in-Serves-clause-kept : goal.returns-in-Serves-clause-kept
returns-in-Serves-clause-kept c =
    let began = subst (λ s. Begins (session_of c.args.self.now.stage) (session_of s)) c.in-Serves.is c.open_offered.ensures.begins in
    on_ok c.turn_half-in-Serves.result _ _ (serving_keeps_on (session_of c.args.self.now.stage) c.in-Serves.session c.turn_half-in-Serves.new.session began) c.turn_half-in-Serves.ensures.kept

pub returns-in-Awaits-clause-kept : goal.returns-in-Awaits-clause-kept
returns-in-Awaits-clause-kept c = begins_keeps (session_of c.args.self.now.stage) (session_of c.open_offered.new.self.stage) c.open_offered.ensures.begins
