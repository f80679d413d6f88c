use Rattle.std.proofs.Common.{◌+◌, ◌∙◌, ap, length}
use Rattle.agent_queue.proofs.TriggerLaws.{old_len, new_len}
use Rattle.agent_queue.proofs.trigger.trigger_len.Goals as goal

pub returns-then-version-ge3 : goal.returns-then-version-ge3
returns-then-version-ge3 c = ap (λ s. 105 + length s) c.bytes.ensures.bytes ∙ new_len c.args.version c.args.plan.now c.if-version-ge3.true c.is_u32.ensures c.requires

pub returns : goal.returns
returns c = old_len c.args.version c.args.plan.now c.if-version-ge3.false c.is_u32.ensures c.requires
