use Rattle.std.proofs.Common.{ap, arith}
use Rattle.agent_task.proofs.StartLaws.{is_new}
use Rattle.agent_task.proofs.task.AgentTask.new.Goals as goal

pub of-requires-4-clause-running : goal.of-requires-4-clause-running
of-requires-4-clause-running c =
    is_new (record { domain = c.args.domain; version = c.args.version; calls = c.of.result; control = c.of-2.result; payload = c.of-3.result })
    c.in-Ok.room.queue c.new-port.result c.in-Ok-new.slots c.len-count.result c.args.calls.items c.args.control c.args.payload.items (ap (λ v. v.items) c.of.ensures) c.of-2.ensures (ap (λ v. v.items) c.of-3.ensures)
    c.in-Ok.ensures.queue c.new-port.ensures.same (c.new-port.ensures.new.1, c.new-port.ensures.new.2) c.new-port.ensures.said c.new-port.ensures.heard c.in-Ok-new.ensures.made (omega (arith, c.len-count.ensures, c.args.calls.ok.0))
    c.requires.control.0 c.requires.control.1 c.requires.apart
