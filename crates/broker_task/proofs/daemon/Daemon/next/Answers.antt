use Rattle.std.proofs.Common.{refl, ap, sym, ◌≡◌, ◌∙◌, subst, Option, true}
use Rattle.std.specs.Prelude.{IfSome}
use Rattle.qrexec_frame.specs.declared.message.Message.{Message}
use Rattle.qrexec_frame.specs.Messages.{IsSpellable}
use Rattle.control_port.specs.declared.talk.Talker.{Talker}
use Rattle.control_port.specs.Talking.{may_hear}
use Rattle.control_port.specs.Port.{Hands}
use Rattle.control_port.proofs.PortLaws.{said_still}
use Rattle.broker_task.proofs.LineLaws.{hands_event, hands_none}
use Rattle.broker_task.proofs.daemon.Daemon.next.Goals as goal

pub event_of-requires : goal.event_of-requires
event_of-requires c =
    let may = subst (λ (o : Option Message). IfSome o (λ m. may_hear c.args.self.now.port.talker m ≡ true)) c.in-Some.is c.in_ok-message.ensures.may in
    ap (λ (t : Talker). may_hear t c.in-Some.message) (sym c.requires.line.talker) ∙ may

pub returns-in-Some-clause-hands : goal.returns-in-Some-clause-hands
returns-in-Some-clause-hands c = λ events h.
    let fits = subst (λ (o : Option Message). IfSome o (λ m. IsSpellable m)) c.in-Some.is c.in_ok-message.ensures.fits in
    hands_event c.args.self.now (record c.args.self.now { port = c.next.new.self }) events c.in-Some.message c.event_of.result refl h
    (λ heard g. subst (λ o. Hands c.next.new.self heard o) c.in-Some.is (c.in_ok-message.ensures.hands heard g)) c.event_of.ensures fits

pub returns-in-Some-clause-said : goal.returns-in-Some-clause-said
returns-in-Some-clause-said c = λ said h. said_still c.args.self.now.port c.next.new.self said c.next.ensures.only h

pub returns-in-None-clause-hands : goal.returns-in-None-clause-hands
returns-in-None-clause-hands c = λ events h.
    hands_none c.args.self.now (record c.args.self.now { port = c.next.new.self }) events refl (c.next.ensures.only.1 ∙ c.requires.line.talker) (c.next.ensures.only.2 ∙ c.requires.line.own) h
    (λ heard g. subst (λ o. Hands c.next.new.self heard o) c.in-None.is (c.in_ok-message.ensures.hands heard g))

pub returns-in-None-clause-said : goal.returns-in-None-clause-said
returns-in-None-clause-said c = λ said h. said_still c.args.self.now.port c.next.new.self said c.next.ensures.only h
