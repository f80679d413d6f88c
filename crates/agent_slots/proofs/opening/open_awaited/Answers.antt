use Rattle.std.proofs.Common.{ap, ◌∙◌, refl, inl, inr}
use Rattle.std.specs.Prelude.{true}
use Rattle.atomic_table.specs.Seated.{TableId}
use Rattle.end_view.specs.EndView.{EndView}
use Rattle.vchan_rule.specs.Seated.{view}
use Rattle.page_offer.specs.Views.{named}
use Rattle.agent_slots.specs.Slots.{held_of}
use Rattle.agent_slots.specs.Stages.{ForServing, Frame}
use Rattle.agent_slots.proofs.opening.open_awaited.Goals as goal

pub returns-in-Ok-clause-frame : goal.returns-in-Ok-clause-frame
returns-in-Ok-clause-frame c = λ place.
    let at : EndView → Frame = λ e. record { held = held_of place e; used = ForServing c.args.number c.args.service.value; late = true } in
    let under : TableId → Frame = λ name. at (named name (view c.in-Ok.end)) in
    c.serve_at.ensures.frame place ∙ (ap under c.in-Ok.ensures.side.0 ∙ ap at c.in-Ok.ensures.end.1)

pub returns-in-Ok-clause-begins : goal.returns-in-Ok-clause-begins
returns-in-Ok-clause-begins c = inr (refl, c.serve_at.ensures.begins)

pub returns-in-Err-clause-begins : goal.returns-in-Err-clause-begins
returns-in-Err-clause-begins c = inl refl
