use Rattle.vchan_protocol.proofs.Signals.SignalLaws.{begin_keeps}
use Rattle.vchan_protocol.proofs.laws.signals.begin_keeps_signals.Goals as goal

pub returns : goal.returns
returns c = begin_keeps
