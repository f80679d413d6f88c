use Rattle.std.proofs.Common.{◌∙◌}
use Rattle.agent_slots.proofs.index.end_at.Goals as goal

pub returns : goal.returns
returns c = c.copied.ensures ∙ c.get.ensures.value
