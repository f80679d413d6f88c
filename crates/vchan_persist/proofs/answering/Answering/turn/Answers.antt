-- A turn of the session keeps what it stands for, and its end is that of the page.
use Rattle.std.proofs.Common.{◌≡◌, ◌<◌, ℕ, List, length, ap, sym, subst, ◌∙◌, arith}
use Rattle.std.proofs.lemmas.List.{take_at}
use Rattle.end_view.specs.EndView.{EndView}
use Rattle.service_gate.specs.Owing.{builtin_owes}
use Rattle.task_duties.specs.Agent.Sessions.{ServingOwes}
use Rattle.vchan_rule.specs.Seated.{last_view}
use Rattle.channel_session.specs.Session.{Turns, builtin_half}
use Rattle.vchan_persist.specs.States.{AnsweringState}
use Rattle.vchan_persist.specs.Owes.{HasServed}
use Rattle.vchan_persist.proofs.answering.Answering.turn.Goals as goal

pub returns-in-Some-clause-pays : goal.returns-in-Some-clause-pays
returns-in-Some-clause-pays c =
    let inside = c.self.inside in
    let v = c.self.invariant in
    let e = c.in-Ok.ensures in
    let over = c.finish.ensures in
    let owed = builtin_owes inside.service.value in
    subst (λ (s : AnsweringState). HasServed s.session.end.page s.service c.finish.result) c.self.view_is (record {
      is_end = record {
        page_is = ap (λ (end : EndView). end.page) over.end ∙ e.end.0;
        role_is = ap (λ (end : EndView). end.role) over.end ∙ e.end.1 ∙ v.4;
      };
      honest = over.honest;
      owes = λ name named. subst (λ (own : ℕ). ServingOwes own name c.finish.result.outcome c.finish.result.got (last_view c.finish.result.retired)) (e.same.own ∙ v.3)
          (subst (λ o. ServingOwes c.turn.new.self.half.answering.own name o c.finish.result.got (last_view c.finish.result.retired)) (sym over.outcome) (over.owed name owed named (e.stands owed v.1)));
    })

pub invariant_of-result : goal.invariant_of-result
invariant_of-result c =
    let inside = c.self.inside in
    let v = c.self.invariant in
    let e = c.in-Ok.ensures in
    let long : length c.turn.new.buf ≡ length inside.room.items = e.long ∙ ap (λ (xs : List ℕ). length xs) c.as_mut_slice.ensures.value in
    let some : 0 < length c.turn.new.buf = omega (arith, long, v.5) in
    (e.work, e.stands (builtin_owes inside.service.value) v.1, sym c.outcome.ensures ∙ c.in-None.is, e.same.own ∙ v.3, e.end.1 ∙ v.4, subst (λ (xs : List ℕ). 0 < length xs) (sym (take_at c.turn.new.buf _ inside.room.len (e.long ∙ c.as_mut_slice.ensures.len))) some)

pub returns-in-Some-clause-turns : goal.returns-in-Some-clause-turns
returns-in-Some-clause-turns c = (
  c.in-Ok.field-0,
  c.turn.new.self,
  subst (λ (s : AnsweringState). Turns builtin_half c.in-Ok.field-0 s.session c.turn.new.self) c.self.view_is c.in-Ok.ensures.turned,
  c.finish.ensures.end,
)
