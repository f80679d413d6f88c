use Rattle.std.proofs.Common.{◌≡◌, length}
use Rattle.agent_task.specs.Standing.{IsHearing, HasSameEnds, KeepsOpen}
use Rattle.agent_task.proofs.agent.Agent.hear_all.Given as goal

abbrev pub invariant-messages : goal.invariant-messages
invariant-messages l = record {
  hearing : IsHearing l.self;
  end : l.self.control.port.end ≡ l.initial.self.control.port.end;
  same : HasSameEnds l.initial.self l.self;
  kept : KeepsOpen l.initial.self l.self;
  next : l.self.control.queue.next ≡ l.initial.self.control.queue.next;
}

abbrev pub decreases-messages : goal.decreases-messages
decreases-messages l = length l.self.control.port.decoder.left
