use Rattle.std.proofs.Common.{◌-◌}
use Rattle.std.specs.Prelude.{length, drop}
use Rattle.agent_slots.specs.Sessions.{sessions_in}
use Rattle.agent_slots.proofs.TurnLaws.{IsTurning}
use Rattle.agent_slots.proofs.SessionLaws.{AreTurning}
use Rattle.agent_slots.proofs.ends.Ends.turn_open.Given as goal

abbrev pub invariant-loop-next : goal.invariant-loop-next
invariant-loop-next l = IsTurning l.fn.self l.self l.fn.over.items l.over.items × AreTurning (sessions_in l.fn.self.slots.items) (sessions_in l.self.slots.items) (drop l.next l.self.busy.items)

abbrev pub decreases-loop-next : goal.decreases-loop-next
decreases-loop-next l = length l.self.busy.items - l.next
