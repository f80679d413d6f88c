use Rattle.std.proofs.Common.{◌-◌, ◌≤◌}
use Rattle.hostile_task.proofs.DrawLaws.{IsDrawnSoFar}
use Rattle.hostile_task.proofs.pages.Pages.scribble.Given as goal

abbrev pub invariant-loop : goal.invariant-loop
invariant-loop l = (l.x ≤ 65536) × IsDrawnSoFar l.seed l.count l.x (l.count - l.counter) l.initial.self l.self
