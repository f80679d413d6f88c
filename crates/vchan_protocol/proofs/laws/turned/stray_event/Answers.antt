use Rattle.vchan_protocol.proofs.Hostile.TurnedSteps.{stray_again}
use Rattle.vchan_protocol.proofs.laws.turned.stray_event.Goals as goal

pub returns : goal.returns
returns c = stray_again
