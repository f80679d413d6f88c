use Rattle.std.proofs.Common.{refl, subst}
use Rattle.task_duties.specs.TaskOwes.{Hostile, NoMemory, TaskOwes}
use Rattle.task_duties.specs.GivenEnds.{all_retired}
use Rattle.hostile_task.specs.Plan.{HostileState}
use Rattle.hostile_task.proofs.DoneLaws.{back_pays}
use Rattle.hostile_task.proofs.task.HostileTask.give_up.Goals as goal

pub returns : goal.returns
returns c =
    let t = c.self.inside in
    subst (λ (s : HostileState). TaskOwes (Hostile s.plan s.ends) (NoMemory (all_retired c.retire.result.items))) c.self.view_is
    (back_pays t.domain t.pages t.pages t.progress t.progress t.spelled.items c.retire.result.items (record { places = refl; given = refl }) c.self.invariant.0 c.retire.ensures)
