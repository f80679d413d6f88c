-- The view of an end after a call that ends no stream, opens or shuts nothing and retires nothing: only its lists, and whether it saw its peer's end, may change.
use Rattle.std.proofs.Common.{◌≡◌, ℕ, ◌++◌, ◌||◌, Bool, false, Option, Some, None, List, take, refl, ap, ◌∙◌}
use Rattle.std.proofs.Math.Bool.{or-false}
use Rattle.vchan_protocol.specs.declared.call.Answer.{Answer}
use Rattle.vchan_protocol.specs.declared.call.Call.{Call}
use Rattle.vchan_protocol.specs.declared.side.EndedBy.{EndedBy}
use Rattle.vchan_protocol.specs.History.Core.{ending, drains, first_ended, misleads}
use Rattle.vchan_protocol.specs.OneEnd.OneCall.{bytes_out, bytes_in}
use Rattle.end_view.specs.EndView.{EndView}
use Rattle.end_view.specs.AfterCall.{answered_view, state_told, retires}

pub ended_no : (ended : Option EndedBy) → first_ended ended None ≡ ended
ended_no None = refl
ended_no (Some by) = refl

pub record IsQuiet (e : EndView) (call : Call) (answer : Answer) : Type 0 where
  pub state : state_told call answer e.state ≡ e.state
  pub stays : retires call ≡ false
  pub ends : ending answer ≡ None
  pub drained : drains answer ≡ false
  pub misled : misleads answer ≡ false

pub quiet_view : (e : EndView) (call : Call) (payload buffer : List ℕ) (answer : Answer) (saw saw' : Bool) (sent got : List ℕ) → IsQuiet e call answer → e.sent ++ take (bytes_out answer) payload ≡ sent → e.got ++ take (bytes_in answer) buffer ≡ got → saw ≡ saw' →
    answered_view e call payload buffer answer saw ≡ record e { sent = sent; got = got; saw = saw' }
quiet_view e call payload buffer answer saw saw' sent got q sends gets sees =
    let ended = ap (λ (o : Option EndedBy). first_ended e.ended o) q.ends ∙ ended_no e.ended in
    let drained = ap (λ (b : Bool). e.drained || b) q.drained ∙ or-false e.drained in
    let misled = ap (λ (b : Bool). e.misled || b) q.misled ∙ or-false e.misled in
    let retired = ap (λ (b : Bool). e.retired || b) q.stays ∙ or-false e.retired in
    λ i. record {
      page = e.page;
      role = e.role;
      state = q.state i;
      idle = e.idle;
      sent = sends i;
      got = gets i;
      saw = sees i;
      ended = ended i;
      drained = drained i;
      misled = misled i;
      retired = retired i;
      turned = e.turned;
      consumed = e.consumed;
      trail = e.trail;
    }
