use Rattle.std.proofs.Common.{ap, sym, subst, ◌∙◌}
use Rattle.vchan_rule.specs.Seated.{view, last_view}
use Rattle.task_duties.specs.GivenEnds.{done_view}
use Rattle.service_gate.specs.Owing.{builtin_owes}
use Rattle.task_duties.specs.Agent.Sessions.{CallerOwes, ServingOwes}
use Rattle.agent_slots.specs.declared.stage.Stage.{Stage}
use Rattle.agent_slots.specs.declared.stage.Stage.TheVariants.{Calls, Serves}
use Rattle.agent_slots.specs.Stages.{ForCall, ForServing, IsStage, framed}
use Rattle.agent_slots.specs.Sessions.{EndedWith, ComesToItsEnd, session_of}
use Rattle.agent_slots.proofs.SideLaws.{caller_over, put_down, serving_over, was_retired}
use Rattle.agent_slots.proofs.SessionLaws.{call_ends, serving_ends}
use Rattle.agent_slots.proofs.ending.ended.Goals as goal

pub returns-in-Calls-clause-frame : goal.returns-in-Calls-clause-frame
returns-in-Calls-clause-frame c = λ place.
    let s = c.in-Calls.session in
    put_down place c.in-Calls.side (view s.end) (last_view c.finish-done.result.retired) c.finish-end.result (ForCall c.in-Calls.number c.in-Calls.input.value.items) c.finish-done.ensures.end c.finish-end.ensures.view c.finish-end.ensures.late
    ∙ ap (framed place) (sym c.in-Calls.is)

pub returns-in-Serves-clause-frame : goal.returns-in-Serves-clause-frame
returns-in-Serves-clause-frame c = λ place.
    let s = c.in-Serves.session in
    put_down place c.in-Serves.side (view s.end) (last_view c.finish-got.result.retired) c.finish-end-in-Serves.result (ForServing c.in-Serves.number c.in-Serves.service.value) c.finish-got.ensures.end c.finish-end-in-Serves.ensures.view c.finish-end-in-Serves.ensures.late
    ∙ ap (framed place) (sym c.in-Serves.is)

pub returns-in-Calls-clause-stage : goal.returns-in-Calls-clause-stage
returns-in-Calls-clause-stage c = λ version stage.
    let P : Stage → Type 0 = IsStage version in
    let ended = c.finish-done.result in
    let last = last_view ended.retired in
    let session = c.in-Calls.session in
    let was : IsStage version (Calls c.in-Calls.number c.in-Calls.input c.in-Calls.side session) = subst P c.in-Calls.is stage in
    caller_over version c.in-Calls.input.value.items c.in-Calls.side c.finish-end.result ended.done last c.finish-end.ensures.view
    (subst (λ i. CallerOwes version i ended.done last) was.3 (subst (λ v. CallerOwes v session.half.requests.input ended.done last) was.1 (c.finish-done.ensures.owed was.2)))

pub returns-in-Serves-clause-stage : goal.returns-in-Serves-clause-stage
returns-in-Serves-clause-stage c = λ version stage name is_service.
    let P : Stage → Type 0 = IsStage version in
    let ended = c.finish-got.result in
    let was : IsStage version (Serves c.in-Serves.number c.in-Serves.service c.in-Serves.side c.in-Serves.session) = subst P c.in-Serves.is stage in
    let owed = c.finish-got.ensures.owed name (builtin_owes c.in-Serves.service.value) is_service was.2 in
    serving_over version name c.in-Serves.side c.finish-end-in-Serves.result c.args.outcome ended.got (last_view ended.retired) c.finish-end-in-Serves.ensures.view
    (subst (λ v. ServingOwes v name c.args.outcome ended.got (last_view ended.retired)) was.1 owed)

pub returns-in-Calls-clause-ends : goal.returns-in-Calls-clause-ends
returns-in-Calls-clause-ends c =
    let end = c.finish-end.result in
    subst (λ (s : Stage). ComesToItsEnd (session_of s) (EndedWith (done_view end))) (sym c.in-Calls.is)
    (call_ends c.in-Calls.session c.in-Calls.side (last_view c.finish-done.result.retired) end c.finish-done.ensures.end c.finish-end.ensures.view)

pub returns-in-Serves-clause-ends : goal.returns-in-Serves-clause-ends
returns-in-Serves-clause-ends c =
    let end = c.finish-end-in-Serves.result in
    subst (λ (s : Stage). ComesToItsEnd (session_of s) (EndedWith (done_view end))) (sym c.in-Serves.is)
    (serving_ends c.in-Serves.session c.in-Serves.side (last_view c.finish-got.result.retired) end c.finish-got.ensures.end c.finish-end-in-Serves.ensures.view)

pub returns-in-Calls-clause-retire : goal.returns-in-Calls-clause-retire
returns-in-Calls-clause-retire c = was_retired c.in-Calls.side (view c.in-Calls.session.end) (last_view c.finish-done.result.retired) c.finish-end.result c.finish-done.ensures.end c.finish-done.ensures.honest c.finish-end.ensures.view

pub returns-in-Serves-clause-retire : goal.returns-in-Serves-clause-retire
returns-in-Serves-clause-retire c =
    was_retired c.in-Serves.side (view c.in-Serves.session.end) (last_view c.finish-got.result.retired) c.finish-end-in-Serves.result c.finish-got.ensures.end c.finish-got.ensures.honest c.finish-end-in-Serves.ensures.view
