use Rattle.std.proofs.Common.{refl}
use Rattle.agent_task.proofs.StartLaws.{starts_in}
use Rattle.agent_task.proofs.task.AgentTask.of.Goals as goal

pub invariant_of-result : goal.invariant_of-result
invariant_of-result c = ((starts_in _ _ c.replace.ensures.after c.requires.running c.new.ensures.items refl).0, c.requires.some, c.new-2.ensures.items)

pub returns-clause-new : goal.returns-clause-new
returns-clause-new c = (starts_in _ _ c.replace.ensures.after c.requires.running c.new.ensures.items refl).1
