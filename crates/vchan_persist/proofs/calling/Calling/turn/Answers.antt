-- A turn of the session keeps what it stands for, and its end is that of the page.
use Rattle.std.proofs.Common.{◌≡◌, ◌<◌, ℕ, List, length, ap, sym, subst, ◌∙◌, arith}
use Rattle.std.proofs.lemmas.List.{take_at}
use Rattle.end_view.specs.EndView.{EndView}
use Rattle.task_duties.specs.Agent.Sessions.{CallerOwes}
use Rattle.vchan_rule.specs.Seated.{last_view}
use Rattle.qrexec_data.specs.CallerSide.{caller_half}
use Rattle.channel_session.specs.Session.{CallerAt, Turns}
use Rattle.vchan_persist.specs.Owes.{HasCalled}
use Rattle.vchan_persist.proofs.calling.Calling.turn.Goals as goal

pub returns-in-Some-clause-pays : goal.returns-in-Some-clause-pays
returns-in-Some-clause-pays c =
    let v = c.self.invariant in
    let e = c.in-Ok.ensures in
    let over = c.finish.ensures in
    subst (λ (s : CallerAt). HasCalled s.end.page s.half.requests.input c.finish.result) c.self.view_is (record {
      is_end = record {
        page_is = ap (λ (end : EndView). end.page) over.end ∙ e.end.0;
        role_is = ap (λ (end : EndView). end.role) over.end ∙ e.end.1 ∙ v.4;
      };
      honest = over.honest;
      owes = subst (λ (own : ℕ). CallerOwes own c.self.inside.session.half.requests.input c.finish.result.done (last_view c.finish.result.retired)) (e.same.own ∙ v.3)
          (subst (λ (input : List ℕ). CallerOwes c.turn.new.self.half.replies.own input c.finish.result.done (last_view c.finish.result.retired)) e.same.input (over.owed (e.stands tt v.1)));
    })

pub invariant_of-result : goal.invariant_of-result
invariant_of-result c =
    let inside = c.self.inside in
    let v = c.self.invariant in
    let e = c.in-Ok.ensures in
    let long : length c.turn.new.buf ≡ length inside.room.items = e.long ∙ ap (λ (xs : List ℕ). length xs) c.as_mut_slice.ensures.value in
    let some : 0 < length c.turn.new.buf = omega (arith, long, v.5) in
    (e.work, e.stands tt v.1, sym c.outcome.ensures ∙ c.in-None.is, e.same.own ∙ v.3, e.end.1 ∙ v.4, subst (λ (xs : List ℕ). 0 < length xs) (sym (take_at c.turn.new.buf _ inside.room.len (e.long ∙ c.as_mut_slice.ensures.len))) some)

pub returns-in-Some-clause-turns : goal.returns-in-Some-clause-turns
returns-in-Some-clause-turns c = (
  c.in-Ok.field-0,
  c.turn.new.self,
  subst (λ (s : CallerAt). Turns caller_half c.in-Ok.field-0 s c.turn.new.self) c.self.view_is c.in-Ok.ensures.turned,
  c.finish.ensures.end,
)
