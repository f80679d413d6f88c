use Rattle.std.proofs.Common.{◌≡◌, ◌++◌, take}
use Rattle.agent_task.specs.Standing.{OnlyTells}
use Rattle.agent_task.proofs.agent.Agent.note_over.Given as goal

abbrev pub invariant-loop-session : goal.invariant-loop-session
invariant-loop-session l = record {
  only : OnlyTells l.initial.self l.self;
  told : l.self.control.unsaid.items ≡ l.initial.self.control.unsaid.items ++ take l.session-index l.over;
}
