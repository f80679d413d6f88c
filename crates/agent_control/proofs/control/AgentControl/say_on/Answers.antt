use Rattle.std.proofs.Common.{◌+◌, refl, inl, subst, arith}
use Rattle.agent_control.proofs.SpeakingLaws.{says_then, says_few}
use Rattle.agent_control.proofs.StoppingLaws.{stops_after}
use Rattle.agent_control.specs.Stopping.{EndWaits, Unless, AtAnEnd}
use Rattle.agent_control.proofs.control.AgentControl.say_on.Goals as goal

pub returns-then-not-branch-clause-more : goal.returns-then-not-branch-clause-more
returns-then-not-branch-clause-more c = says_few 0 c.args.calls c.args.self.now c.say_ends.new.self (omega arith) c.in_ok-say_ends.ensures.more

pub say_triggers-requires-clause-none : goal.say_triggers-requires-clause-none
say_triggers-requires-clause-none c = c.in_ok-say_ends.ensures.all c.if-not-branch.false

pub returns-clause-more : goal.returns-clause-more
returns-clause-more c =
    says_few (0 + c.args.calls) c.args.calls c.args.self.now c.say_triggers.new.self (omega arith)
    (says_then 0 c.args.calls c.args.self.now c.say_ends.new.self c.say_triggers.new.self (inl refl) c.in_ok-say_ends.ensures.more c.in_ok-say_triggers.ensures.more)

pub returns-then-not-branch-clause-why : goal.returns-then-not-branch-clause-why
returns-then-not-branch-clause-why c = AtAnEnd (subst (λ b. Unless b (EndWaits c.args.self.now c.say_ends.new.self)) c.if-not-branch.true c.in_ok-say_ends.ensures.why)

pub returns-clause-why : goal.returns-clause-why
returns-clause-why c = stops_after c.args.calls c.args.self.now c.say_ends.new.self c.say_triggers.new.self c.say_ends.ensures.end c.in_ok-say_ends.ensures.next c.in_ok-say_triggers.ensures.why
