use Rattle.vchan_protocol.proofs.Hostile.TurnedSteps.{turned_event}
use Rattle.vchan_protocol.proofs.laws.turned.turned_event.Goals as goal

pub returns : goal.returns
returns c = turned_event
