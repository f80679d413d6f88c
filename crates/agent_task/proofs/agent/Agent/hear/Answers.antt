use Rattle.std.proofs.Common.{refl, subst}
use Rattle.list_laws.proofs.Results.{on_ok}
use Rattle.agent_task.specs.Standing.{Awaits}
use Rattle.agent_task.proofs.StepLaws.{just_exec_unserved, passes_other}
use Rattle.agent_task.proofs.agent.Agent.hear.Goals as goal

pub returns-in-JustExec-clause-hearing : goal.returns-in-JustExec-clause-hearing
returns-in-JustExec-clause-hearing c =
    on_ok c.end_unserved.result _ _
    (just_exec_unserved c.args.self.now c.end_unserved.new.self c.in-JustExec.domain c.in-JustExec.port c.in-JustExec.line (subst (λ m. Awaits c.args.self.now m) c.in-JustExec.is c.requires) c.end_unserved.ensures.same) c.end_unserved.ensures.told

pub returns : goal.returns
returns c = record { hearing = passes_other c.args.self.now c.args.message c.requires c.in_default.not-Connect c.in_default.not-Refused c.in_default.not-Exec c.in_default.not-JustExec; same = (refl, (refl, refl, refl)); kept = λ i is_open. refl; next = refl }
