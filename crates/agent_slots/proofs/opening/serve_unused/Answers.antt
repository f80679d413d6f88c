use Rattle.std.proofs.Common.{ap, sym, ◌∙◌}
use Rattle.task_duties.specs.declared.ends.UnusedEnd.{UnusedEnd}
use Rattle.task_duties.specs.GivenEnds.{fresh_view}
use Rattle.agent_slots.specs.Slots.{held_of}
use Rattle.agent_slots.specs.Sides.{is_late_unused}
use Rattle.agent_slots.specs.Stages.{ForServing, Frame}
use Rattle.agent_slots.proofs.opening.serve_unused.Goals as goal

pub returns-in-Laid-clause-frame : goal.returns-in-Laid-clause-frame
returns-in-Laid-clause-frame c = λ place.
    let at : UnusedEnd → Frame = λ e. record { held = held_of place (fresh_view e); used = ForServing c.args.number c.args.service.value; late = is_late_unused e } in
    c.serve_at.ensures.frame place ∙ ap at (sym c.in-Laid.is)
