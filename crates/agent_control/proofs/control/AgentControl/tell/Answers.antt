use Rattle.std.proofs.Common.{subst}
use Rattle.qrexec_frame.specs.declared.message.Message.TheVariants.{Terminated}
use Rattle.agent_control.specs.Speaking.{Says}
use Rattle.agent_control.proofs.StoppingLaws.{ended_next}
use Rattle.agent_control.proofs.SpeakingLaws.{tells_nothing, tells_other, tells_own, within_queue}
use Rattle.agent_control.proofs.control.AgentControl.tell.Goals as goal

pub returns-then-not-branch-clause-tells : goal.returns-then-not-branch-clause-tells
returns-then-not-branch-clause-tells c =
    tells_nothing c.args.self.now c.say-said.new.self c.args.end (Terminated c.args.end.domain c.args.end.port) c.say-said.ensures.end
    (subst (λ b. Says c.args.self.now c.say-said.new.self (Terminated c.args.end.domain c.args.end.port) b) c.if-not-branch.true c.in_ok-said.ensures.says)

pub returns-in-Some-clause-tells : goal.returns-in-Some-clause-tells
returns-in-Some-clause-tells c =
    let says = subst (λ b. Says c.args.self.now c.say-said.new.self (Terminated c.args.end.domain c.args.end.port) b) c.if-not-branch.false c.in_ok-said.ensures.says in
    tells_own c.args.self.now c.say-said.new.self c.ended.new.self c.args.end c.in-Some.place c.in-Some.is (within_queue c.args.self.now c.say-said.new.self c.args.end c.in-Some.place (Terminated c.args.end.domain c.args.end.port) c.requires.call c.in-Some.is says)
    c.say-said.ensures.end says c.ended.ensures.is c.ended.ensures.asks

pub returns-in-None-clause-tells : goal.returns-in-None-clause-tells
returns-in-None-clause-tells c =
    tells_other c.args.self.now c.say-said.new.self c.args.end c.in-None.is c.say-said.ensures.end
    (subst (λ b. Says c.args.self.now c.say-said.new.self (Terminated c.args.end.domain c.args.end.port) b) c.if-not-branch.false c.in_ok-said.ensures.says)

pub returns-in-Some-clause-next : goal.returns-in-Some-clause-next
returns-in-Some-clause-next c =
    let says = subst (λ b. Says c.args.self.now c.say-said.new.self (Terminated c.args.end.domain c.args.end.port) b) c.if-not-branch.false c.in_ok-said.ensures.says in
    ended_next c.args.self.now c.say-said.new.self c.ended.new.self c.in-Some.place (within_queue c.args.self.now c.say-said.new.self c.args.end c.in-Some.place (Terminated c.args.end.domain c.args.end.port) c.requires.call c.in-Some.is says)
    says.queue c.ended.ensures.is
