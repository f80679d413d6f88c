use Rattle.std.proofs.Common.{◌+◌, inr, subst, arith}
use Rattle.agent_control.specs.Stopping.{HoldsBack, Unless, AtATrigger, AtTheLimit}
use Rattle.agent_control.proofs.SpeakingLaws.{says_same, says_then, says_few, says_none}
use Rattle.agent_control.proofs.StoppingLaws.{holds_after}
use Rattle.agent_control.proofs.control.AgentControl.say_triggers.Goals as goal

pub triggers-init : goal.triggers-init
triggers-init c = (says_same c.args.self.now c.requires.can, c.requires.none, omega arith)

pub triggers-preserved : goal.triggers-preserved
triggers-preserved c = (
  says_then c.triggers._call 1 c.args.self.now c.triggers.self c.say_trigger.new.self (inr c.triggers.invariant.1) c.triggers.invariant.0 c.in_ok-say_trigger.ensures.more,
  says_none 1 c.triggers.self c.say_trigger.new.self c.in_ok-say_trigger.ensures.more c.triggers.invariant.1,
  (let next = c.in_ok-say_trigger.ensures.next c.if-not-branch.false in omega (arith, next, c.triggers.invariant.2)),
)

pub returns-then-not-branch-clause-more : goal.returns-then-not-branch-clause-more
returns-then-not-branch-clause-more c =
    says_few (c.triggers._call + 1) c.args.calls c.args.self.now c.say_trigger.new.self (omega arith)
    (says_then c.triggers._call 1 c.args.self.now c.triggers.self c.say_trigger.new.self (inr c.triggers.invariant.1) c.triggers.invariant.0 c.in_ok-say_trigger.ensures.more)

pub returns-clause-more : goal.returns-clause-more
returns-clause-more c = says_few c.triggers._call c.args.calls c.args.self.now c.triggers.self (omega arith) c.triggers.invariant.0

pub returns-then-not-branch-clause-why : goal.returns-then-not-branch-clause-why
returns-then-not-branch-clause-why c =
    AtATrigger (says_none 1 c.triggers.self c.say_trigger.new.self c.in_ok-say_trigger.ensures.more c.triggers.invariant.1)
    (holds_after c.args.self.now c.triggers.self c.say_trigger.new.self c.triggers.invariant.0.end (subst (λ b. Unless b (HoldsBack c.triggers.self c.say_trigger.new.self)) c.if-not-branch.true c.in_ok-say_trigger.ensures.why))

pub returns-clause-why : goal.returns-clause-why
returns-clause-why c = AtTheLimit c.triggers.invariant.1 (let next = c.triggers.invariant.2 in omega (arith, next))
