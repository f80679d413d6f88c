use Rattle.vchan_protocol.proofs.Signals.SignalLaws.{call_keeps}
use Rattle.vchan_protocol.proofs.laws.signals.call_keeps_signals.Goals as goal

pub returns : goal.returns
returns c = call_keeps
