use Rattle.std.proofs.Common.{◌≡◌, ◌∙◌, false, ap, rules}
use Rattle.vchan_rule.specs.Seated.{view}
use Rattle.agent_task.proofs.PortLaws.{greets_up}
use Rattle.agent_task.proofs.MovingLaws.{greets_by}
use Rattle.agent_task.proofs.agent.Agent.greet.Goals as goal
use Rattle.vchan_packet.proofs.PacketLaws.{sent_got}

pub returns-in_ok-greet-clause-up : goal.returns-in_ok-greet-clause-up
returns-in_ok-greet-clause-up c =
    greets_up c.args.self.now c.greet.new.self c.in_ok-greet.field-0 _ c.requires.up c.greet.ensures.end c.greet.ensures.open c.in_ok-greet.ensures.view c.greet.ensures.said c.greet.ensures.heard c.greet.ensures.same

pub returns-in_ok-greet-clause-greets : goal.returns-in_ok-greet-clause-greets
returns-in_ok-greet-clause-greets c =
    let first : c.args.self.now.control.port.greeted ≡ false = search rules in
    greets_by c.args.self.now.control.port c.greet.new.self c.in_ok-greet.field-0 first c.in_ok-greet.ensures.greeted c.in_ok-greet.ensures.view c.in_ok-greet.ensures.trail c.in_ok-greet.ensures.cause

pub returns-in_ok-greet-clause-got : goal.returns-in_ok-greet-clause-got
returns-in_ok-greet-clause-got c = ap (λ e. e.got) c.in_ok-greet.ensures.view ∙ sent_got (view c.args.self.now.control.port.end) c.in_ok-greet.field-0 _
