use Rattle.std.proofs.Common.{sym, subst}
use Rattle.qrexec_frame.specs.declared.message.Message.TheVariants.{Refused}
use Rattle.agent_task.specs.Standing.{Awaits}
use Rattle.agent_task.proofs.StepLaws.{refuse_taken}
use Rattle.agent_task.proofs.agent.Agent.refuse.Goals as goal

pub returns-clause-hearing : goal.returns-clause-hearing
returns-clause-hearing c =
    refuse_taken c.args.self.now c.bytes.result.now c.refused.new.self (subst (λ i. Awaits c.args.self.now (Refused i)) (sym c.bytes.ensures.bytes) c.requires) c.refused.ensures.is c.refused.ensures.asks
