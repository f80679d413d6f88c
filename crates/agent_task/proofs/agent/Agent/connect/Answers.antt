use Rattle.std.proofs.Common.{◌∙◌, ap, sym, subst}
use Rattle.list_laws.proofs.Results.{on_ok}
use Rattle.agent_queue.specs.Queue.{QueueState}
use Rattle.qrexec_frame.specs.declared.message.Message.TheVariants.{Connect}
use Rattle.agent_task.specs.Standing.{Awaits}
use Rattle.agent_task.proofs.StepLaws.{connect_no_call, connect_no_end, connect_taken, call_number}
use Rattle.agent_task.proofs.agent.Agent.connect.Goals as goal

pub returns-in_default-clause-hearing : goal.returns-in_default-clause-hearing
returns-in_default-clause-hearing c =
    connect_no_call c.args.self.now c.args.to c.args.port c.bytes.result.now (subst (λ i. Awaits c.args.self.now (Connect c.args.to c.args.port i)) (sym c.bytes.ensures.bytes) c.requires) (c.waiting.ensures.none c.in_default.is)

pub returns-then-not-can_call-clause-hearing : goal.returns-then-not-can_call-clause-hearing
returns-then-not-can_call-clause-hearing c = connect_no_end c.args.self.now c.args.to c.args.port c.args.ident.now c.requires c.if-not-can_call.ensures

pub call-requires-clause-number : goal.call-requires-clause-number
call-requires-clause-number c = call_number c.args.self.now (Connect c.args.to c.args.port c.args.ident.now) c.in-Some.place c.bytes.result.now c.requires c.in-Some.ensures.some

pub returns-clause-hearing : goal.returns-clause-hearing
returns-clause-hearing c =
    on_ok c.call.result _ _
    (connect_taken c.args.self.now c.args.to c.args.port c.bytes.result.now c.in-Some.place c.into_list.result.items c.connected-input.new.self c.call.new.self
    (subst (λ i. Awaits c.args.self.now (Connect c.args.to c.args.port i)) (sym c.bytes.ensures.bytes) c.requires) c.in-Some.ensures.some c.if-not-can_call.ensures
    (c.connected-input.ensures.is c.bytes.result.now c.in-Some.ensures.some) c.connected-input.ensures.asks (λ q at. c.into_list.ensures ∙ c.connected-input.ensures.stdin q at))
    c.call.ensures.ok

pub returns-clause-next : goal.returns-clause-next
returns-clause-next c = ap (λ (q : QueueState). q.next) (c.connected-input.ensures.is c.bytes.result.now c.in-Some.ensures.some)
