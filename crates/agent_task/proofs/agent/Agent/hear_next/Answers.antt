use Rattle.std.proofs.Common.{subst}
use Rattle.control_port.specs.Port.{Hands}
use Rattle.agent_task.proofs.PortLaws.{handed_one, handed_all}
use Rattle.agent_task.proofs.agent.Agent.hear_next.Goals as goal

pub hear-requires : goal.hear-requires
hear-requires c =
    handed_one c.args.self.now c.next.new.self c.in-Some.message c.requires.hearing c.next.ensures.only (λ heard h. subst (λ o. Hands c.next.new.self heard o) c.in-Some.is (c.in_ok-message.ensures.hands heard h))

pub returns-in-None-clause-hears : goal.returns-in-None-clause-hears
returns-in-None-clause-hears c =
    handed_all c.args.self.now c.next.new.self c.requires.hearing c.next.ensures.only (λ heard h. subst (λ o. Hands c.next.new.self heard o) c.in-None.is (c.in_ok-message.ensures.hands heard h))
