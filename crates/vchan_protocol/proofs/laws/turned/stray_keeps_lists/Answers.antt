use Rattle.vchan_protocol.proofs.Hostile.TurnedSteps.{stray_keeps}
use Rattle.vchan_protocol.proofs.laws.turned.stray_keeps_lists.Goals as goal

pub returns : goal.returns
returns c = stray_keeps
