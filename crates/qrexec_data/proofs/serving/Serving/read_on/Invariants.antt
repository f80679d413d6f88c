use Rattle.std.proofs.Common.{◌-◌, length}
use Rattle.qrexec_data.specs.Reading.{IsByBytes}
use Rattle.qrexec_data.proofs.ServingLaws.{KeepsServing}
use Rattle.qrexec_data.proofs.serving.Serving.read_on.Given as goal

abbrev pub invariant-loop : goal.invariant-loop
invariant-loop g l = (KeepsServing g.S.Service.owes l.initial.self l.self) × (IsByBytes l.initial.self.answering.outcome → IsByBytes l.self.answering.outcome)

abbrev pub decreases-loop : goal.decreases-loop
decreases-loop g l = length l.self.inbox.got - l.self.inbox.read
