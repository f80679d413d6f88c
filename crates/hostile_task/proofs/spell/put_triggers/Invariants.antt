use Rattle.std.proofs.Common.{◌≡◌, ◌++◌}
use Rattle.std.specs.List.{flat_map}
use Rattle.task_duties.specs.Places.{numbers}
use Rattle.task_duties.specs.Hostile.Trail.{numbered_trigger}
use Rattle.hostile_task.proofs.spell.put_triggers.Given as goal

abbrev pub invariant-loop-said : goal.invariant-loop-said
invariant-loop-said l = l.out.items ≡ l.initial.out.items ++ flat_map (numbered_trigger l.to l.service) (numbers 1 1 l.said)
