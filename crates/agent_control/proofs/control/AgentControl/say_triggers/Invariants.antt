use Rattle.std.specs.Prelude.{◌≡◌, ◌+◌, []}
use Rattle.agent_control.specs.Speaking.{SaysMore}
use Rattle.agent_control.proofs.control.AgentControl.say_triggers.Given as goal

abbrev pub invariant-triggers : goal.invariant-triggers
invariant-triggers l = SaysMore l._call l.initial.self l.self × (l.self.unsaid.items ≡ []) × (l.self.queue.next ≡ l.initial.self.queue.next + l._call)
