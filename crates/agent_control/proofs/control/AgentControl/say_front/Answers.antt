use Rattle.std.proofs.Common.{subst, arith}
use Rattle.agent_queue.specs.Queue.{HasToSay}
use Rattle.agent_control.specs.Speaking.{Says}
use Rattle.vchan_packet.specs.Packet.{FailsToSend}
use Rattle.qrexec_frame.specs.Messages.{written}
use Rattle.agent_control.specs.Stopping.{Unless}
use Rattle.agent_control.proofs.SpeakingLaws.{says_nothing, says_trigger, says_few}
use Rattle.agent_control.proofs.StoppingLaws.{did_not_go}
use Rattle.agent_control.proofs.control.AgentControl.say_front.Goals as goal

pub returns-then-not-branch-clause-more : goal.returns-then-not-branch-clause-more
returns-then-not-branch-clause-more c =
    says_few 0 1 c.args.self.now c.say-said.new.self (omega arith)
    (says_nothing c.args.self.now c.say-said.new.self c.in-Some.message c.say-said.ensures.end (subst (λ b. Says c.args.self.now c.say-said.new.self c.in-Some.message b) c.if-not-branch.true c.in_ok-said.ensures.says))

pub returns-clause-more : goal.returns-clause-more
returns-clause-more c =
    says_trigger c.args.self.now c.say-said.new.self c.triggered.new.self c.args.version c.in-Some.message c.requires.version c.say-said.ensures.end
    (subst (λ b. Says c.args.self.now c.say-said.new.self c.in-Some.message b) c.if-not-branch.false c.in_ok-said.ensures.says)
    (subst (λ o. HasToSay c.args.self.now.queue c.args.version o) c.in-Some.is c.in_ok-message.ensures.says) c.requires.none c.triggered.ensures.is c.triggered.ensures.asks

pub returns-then-not-branch-clause-why : goal.returns-then-not-branch-clause-why
returns-then-not-branch-clause-why c =
    did_not_go c.args.self.now c.say-said.new.self c.in-Some.message c.args.version c.requires.version
    (subst (λ b. Says c.args.self.now c.say-said.new.self c.in-Some.message b) c.if-not-branch.true c.in_ok-said.ensures.says)
    (subst (λ o. HasToSay c.args.self.now.queue c.args.version o) c.in-Some.is c.in_ok-message.ensures.says)
    (subst (λ b. Unless b (FailsToSend (written c.in-Some.message) c.args.self.now.port.end c.say-said.new.self.port.end)) c.if-not-branch.true c.in_ok-said.ensures.why)
