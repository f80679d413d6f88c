use Rattle.std.proofs.Common.{◌-◌, length}
use Rattle.qrexec_data.specs.Reading.{IsByBytes}
use Rattle.qrexec_data.proofs.CallerLaws.{KeepsOn}
use Rattle.qrexec_data.proofs.caller.Caller.read_on.Given as goal

abbrev pub invariant-loop : goal.invariant-loop
invariant-loop l = (KeepsOn l.initial.self l.self) × (IsByBytes l.initial.self.replies.outcome → IsByBytes l.self.replies.outcome)

abbrev pub decreases-loop : goal.decreases-loop
decreases-loop l = length l.self.inbox.got - l.self.inbox.read
