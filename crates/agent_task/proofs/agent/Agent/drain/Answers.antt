use Rattle.agent_task.proofs.MovingLaws.{drains_by}
use Rattle.agent_task.proofs.PortLaws.{with_port, hears_later, is_drained}
use Rattle.agent_task.proofs.agent.Agent.drain.Goals as goal

pub returns-clause-drains : goal.returns-clause-drains
returns-clause-drains c =
    drains_by c.args.self.now.control.port.end c.drain.new.self.end c.in_ok-drain.field-0 c.args.scratch.now c.drain.new.buf c.drain.new.self.end.side.saw c.requires.some c.drain.ensures.long c.in_ok-drain.ensures.view
    c.in_ok-drain.ensures.trail c.in_ok-drain.ensures.cause

pub returns-clause-hearing : goal.returns-clause-hearing
returns-clause-hearing c =
    hears_later c.args.self.now c.drain.new.self c.requires.up.hearing c.drain.ensures.end c.drain.ensures.open c.drain.ensures.said c.in_ok-drain.ensures.heard c.drain.ensures.same

pub returns-clause-drained : goal.returns-clause-drained
returns-clause-drained c =
    is_drained c.args.self.now (with_port c.args.self.now c.drain.new.self) c.in_ok-drain.field-0 c.drain.new.buf c.drain.new.self.end.side.saw c.requires.up c.in_ok-drain.ensures.view
