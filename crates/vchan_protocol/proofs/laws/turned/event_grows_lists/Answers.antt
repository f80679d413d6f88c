use Rattle.vchan_protocol.proofs.Hostile.TurnedSteps.{event_grows}
use Rattle.vchan_protocol.proofs.laws.turned.event_grows_lists.Goals as goal

pub returns : goal.returns
returns c = event_grows
