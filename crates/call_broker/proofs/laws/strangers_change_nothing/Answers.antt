use Rattle.call_broker.proofs.AloneLaws.{strangers_change_nothing_lem}
use Rattle.call_broker.proofs.laws.strangers_change_nothing.Goals as goal

pub returns : goal.returns
returns c = strangers_change_nothing_lem
