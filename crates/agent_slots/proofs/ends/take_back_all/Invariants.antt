use Rattle.std.proofs.Common.{◌≡◌, ◌-◌, length}
use Rattle.agent_slots.proofs.ends.take_back_all.Given as goal

abbrev pub invariant-loop-next : goal.invariant-loop-next
invariant-loop-next l = l.slots ≡ l.fn.slots

abbrev pub decreases-loop-next : goal.decreases-loop-next
decreases-loop-next l = length l.waiting.items - l.next
