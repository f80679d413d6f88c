use Rattle.vchan_protocol.proofs.Signals.SignalLaws.{no_signal_lost}
use Rattle.vchan_protocol.proofs.laws.signals.no_signal_is_lost.Goals as goal

pub returns : goal.returns
returns c = no_signal_lost
