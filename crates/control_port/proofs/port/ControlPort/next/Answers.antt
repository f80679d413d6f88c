use Rattle.std.proofs.Common.{subst}
use Rattle.control_port.specs.Port.{Greets}
use Rattle.control_port.proofs.port.ControlPort.next.Goals as goal

pub returns-then-not-branch-clause-hands : goal.returns-then-not-branch-clause-hands
returns-then-not-branch-clause-hands c = λ heard h. subst (λ b. Greets c.take_greeting.new.self heard b) c.if-not-branch.true (c.in_ok-take_greeting.ensures.greets heard h)

pub returns-clause-hands : goal.returns-clause-hands
returns-clause-hands c = λ heard h. c.next_message-2.ensures.hands heard (subst (λ b. Greets c.take_greeting.new.self heard b) c.if-not-branch.false (c.in_ok-take_greeting.ensures.greets heard h)).0
