use Rattle.std.specs.Prelude.{◌≡◌, length}
use Rattle.agent_control.specs.Speaking.{SaysMore}
use Rattle.agent_control.proofs.control.AgentControl.say_ends.Given as goal

abbrev pub invariant-ends : goal.invariant-ends
invariant-ends l = SaysMore 0 l.initial.self l.self × (l.self.queue.next ≡ l.initial.self.queue.next)

abbrev pub decreases-ends : goal.decreases-ends
decreases-ends l = length l.self.unsaid.items
