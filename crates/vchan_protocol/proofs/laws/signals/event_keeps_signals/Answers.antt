use Rattle.vchan_protocol.proofs.Signals.SignalLaws.{event_keeps}
use Rattle.vchan_protocol.proofs.laws.signals.event_keeps_signals.Goals as goal

pub returns : goal.returns
returns c = event_keeps
