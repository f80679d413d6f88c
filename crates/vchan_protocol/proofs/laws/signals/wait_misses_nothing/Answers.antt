use Rattle.vchan_protocol.proofs.Signals.SignalLaws.{misses_nothing}
use Rattle.vchan_protocol.proofs.laws.signals.wait_misses_nothing.Goals as goal

pub returns : goal.returns
returns c = misses_nothing
