use Rattle.call_broker.proofs.BrokerLaws.{at_ident}
use Rattle.call_broker.proofs.broker.Broker.decide.Goals as goal

pub returns-in-Trigger : goal.returns-in-Trigger
returns-in-Trigger c = rw c.in-Trigger.is (at_ident _ c.in-Trigger.ident _ c.answer.ensures)
