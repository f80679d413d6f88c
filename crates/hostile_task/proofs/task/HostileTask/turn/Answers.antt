-- A task that has no act left owes what it gives, and any other one goes on by one turn.
use Rattle.std.proofs.Common.{List, length, subst, ap, ◌∙◌}
use Rattle.scenario_file.specs.declared.acts.Act.{Act}
use Rattle.hostile_task.specs.Plan.{HostileState}
use Rattle.task_duties.specs.declared.ends.TaskTurn.TheVariants as turn
use Rattle.hostile_task.specs.Turns.{GoesOn, Pays}
use Rattle.hostile_task.proofs.DoneLaws.{back_pays, done_pays}
use Rattle.hostile_task.proofs.TurnLaws.{goes_on, state_of}
use Rattle.hostile_task.proofs.task.HostileTask.turn.Goals as goal

pub returns-then-progress-list : goal.returns-then-progress-list
returns-then-progress-list c =
    let t = c.self.inside in
    subst (λ (before : HostileState). Pays before c.finish.result) c.self.view_is
    (done_pays t.domain t.pages t.progress t.spelled.items c.finish.result c.self.invariant.0 (c.if-progress-list.true ∙ ap (λ (acts : List Act). length acts) c.list.ensures.list) c.finish.ensures)

pub returns-in-Ok : goal.returns-in-Ok
returns-in-Ok c =
    let t = c.self.inside in
    let now = state_of t.domain c.carry_out.new.pages c.carry_out.new.progress in
    subst (λ (before : HostileState). GoesOn before now) c.self.view_is
    (goes_on t.domain t.pages c.carry_out.new.pages t.progress c.carry_out.new.progress c.carry_out.new.spelled.items c.in-Ok.ensures.same c.in-Ok.ensures.way c.in-Ok.ensures.turn)

pub returns : goal.returns
returns c =
    let t = c.self.inside in
    subst (λ (before : HostileState). Pays before (turn.NoMemory c.retire-ends.result)) c.self.view_is
    (back_pays t.domain t.pages c.carry_out.new.pages t.progress c.carry_out.new.progress c.carry_out.new.spelled.items c.retire-ends.result.items c.carry_out.ensures.same c.carry_out.ensures.way c.retire-ends.ensures)
