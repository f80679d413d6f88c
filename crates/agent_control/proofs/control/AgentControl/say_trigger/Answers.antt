use Rattle.std.proofs.Common.{◌+◌, sym, ap, ◌∙◌, refl, inl, subst, arith}
use Rattle.agent_queue.specs.Queue.{QueueState, HasToSayOfLen}
use Rattle.qrexec_frame.specs.declared.message.Message.TheVariants.{Terminated}
use Rattle.agent_control.specs.Stopping.{FindsLess, Unless}
use Rattle.agent_control.proofs.StoppingLaws.{has_less_room, unless_holds}
use Rattle.agent_control.proofs.SpeakingLaws.{says_nothing, says_then, says_few, says_none}
use Rattle.agent_control.proofs.control.AgentControl.say_trigger.Goals as goal

pub returns-then-not-has_room-clause-more : goal.returns-then-not-has_room-clause-more
returns-then-not-has_room-clause-more c =
    says_few 0 1 c.args.self.now c.has_room.new.self (omega arith) (says_nothing c.args.self.now c.has_room.new.self (Terminated 0 0) c.has_room.ensures.end (c.has_room.ensures.none (Terminated 0 0)))

pub say_front-requires-clause-can : goal.say_front-requires-clause-can
say_front-requires-clause-can c = (c.has_room.ensures.none (Terminated 0 0)).can

pub say_front-requires-clause-version : goal.say_front-requires-clause-version
say_front-requires-clause-version c = (c.has_room.ensures.none (Terminated 0 0)).version ∙ (sym c.version.ensures ∙ c.in-Some.is)

pub say_front-requires-clause-none : goal.say_front-requires-clause-none
say_front-requires-clause-none c =
    says_none 0 c.args.self.now c.has_room.new.self (says_nothing c.args.self.now c.has_room.new.self (Terminated 0 0) c.has_room.ensures.end (c.has_room.ensures.none (Terminated 0 0))) c.requires.none

pub returns-clause-more : goal.returns-clause-more
returns-clause-more c =
    says_then 0 1 c.args.self.now c.has_room.new.self c.say_front.new.self (inl refl)
    (says_nothing c.args.self.now c.has_room.new.self (Terminated 0 0) c.has_room.ensures.end (c.has_room.ensures.none (Terminated 0 0))) c.in_ok-say_front.ensures.more

pub returns-then-not-has_room-clause-why : goal.returns-then-not-has_room-clause-why
returns-then-not-has_room-clause-why c =
    has_less_room c.args.self.now c.has_room.new.self (Terminated 0 0) c.in-Some.version c.in-Some-front_len.len (sym c.version.ensures ∙ c.in-Some.is) (c.has_room.ensures.none (Terminated 0 0))
    (subst (HasToSayOfLen c.args.self.now.queue c.in-Some.version) c.in-Some-front_len.is c.front_len.ensures)
    (subst (λ b. Unless b (FindsLess c.args.self.now.port.end c.has_room.new.self.port.end c.in-Some-front_len.len)) c.if-not-has_room.true c.has_room.ensures.less)

pub returns-clause-why : goal.returns-clause-why
returns-clause-why c = unless_holds c.in_ok-say_front.field-0 c.args.self.now c.has_room.new.self c.say_front.new.self c.has_room.ensures.end c.in_ok-say_front.ensures.why

pub returns-clause-next : goal.returns-clause-next
returns-clause-next c = λ gone. c.in_ok-say_front.ensures.next gone ∙ ap (λ (q : QueueState). q.next + 1) (c.has_room.ensures.none (Terminated 0 0)).queue
