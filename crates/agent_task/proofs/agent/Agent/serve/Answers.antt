use Rattle.std.proofs.Common.{sym, subst}
use Rattle.list_laws.proofs.Results.{on_ok}
use Rattle.qrexec_frame.specs.declared.message.Message.TheVariants.{Exec}
use Rattle.agent_task.specs.Standing.{Awaits}
use Rattle.agent_task.proofs.StepLaws.{exec_unnamed, exec_no_end, serve_taken}
use Rattle.agent_task.proofs.agent.Agent.serve.Goals as goal

pub returns-in_default-clause-hearing : goal.returns-in_default-clause-hearing
returns-in_default-clause-hearing c =
    on_ok c.end_unserved.result _ _
    (exec_unnamed c.args.self.now c.end_unserved.new.self c.args.from c.args.port c.bytes.result.now (subst (λ l. Awaits c.args.self.now (Exec c.args.from c.args.port l)) (sym c.bytes.ensures.bytes) c.requires) c.in_default.ensures.named
    c.end_unserved.ensures.same) c.end_unserved.ensures.told

pub returns-then-not-can_serve-clause-hearing : goal.returns-then-not-can_serve-clause-hearing
returns-then-not-can_serve-clause-hearing c =
    on_ok c.end_unserved-then-not-can_serve.result _ _
    (exec_no_end c.args.self.now c.end_unserved-then-not-can_serve.new.self c.args.from c.args.port c.args.line.now c.requires c.if-not-can_serve.ensures c.end_unserved-then-not-can_serve.ensures.same)
    c.end_unserved-then-not-can_serve.ensures.told

pub returns-clause-hearing : goal.returns-clause-hearing
returns-clause-hearing c =
    on_ok c.serve.result _ _
    (serve_taken c.args.self.now c.args.from c.args.port c.bytes.result.now c.in-Some.service c.serve.new.self (subst (λ l. Awaits c.args.self.now (Exec c.args.from c.args.port l)) (sym c.bytes.ensures.bytes) c.requires) c.in-Some.ensures.named
    c.if-not-can_serve.ensures) c.serve.ensures.ok
