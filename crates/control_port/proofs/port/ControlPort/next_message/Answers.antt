use Rattle.std.proofs.Common.{◌∙◌, ap, sym, subst}
use Rattle.control_port.specs.Talking.{may_hear}
use Rattle.control_port.specs.Port.{Takes}
use Rattle.control_port.proofs.PortLaws.{hands_on, hands_not}
use Rattle.control_port.proofs.port.ControlPort.next_message.Goals as goal

pub returns-in-None-clause-hands : goal.returns-in-None-clause-hands
returns-in-None-clause-hands c = λ heard h. subst (λ o. Takes c.args.self.now c.take.new.self heard o) c.in-None.is (c.in_ok-message.ensures.takes heard h)

pub returns-then-hears-clause-hands : goal.returns-then-hears-clause-hands
returns-then-hears-clause-hands c = λ heard h.
    let t = subst (λ o. Takes c.args.self.now c.take.new.self heard o) c.in-Some.is (c.in_ok-message.ensures.takes heard h) in
    let may = ap (λ p. may_hear p.talker c.in-Some.message) (sym c.self-2.view_is) ∙ sym c.hears.ensures ∙ c.if-hears.true in
    hands_on c.args.self.now c.take.new.self heard c.in-Some.message t c.requires.greeted c.in_ok-message.ensures.only.0 c.in_ok-message.ensures.only.1 may

pub returns-clause-hands : goal.returns-clause-hands
returns-clause-hands c = λ heard h.
    let t = subst (λ o. Takes c.args.self.now c.take.new.self heard o) c.in-Some.is (c.in_ok-message.ensures.takes heard h) in (
      hands_not c.args.self.now c.take.new.self _ heard c.in-Some.message c.at-at.result c.kind-kind.result (sym c.self-2.view_is) t c.requires.greeted c.in_ok-message.ensures.only.0 c.in_ok-message.ensures.only.1
          (sym c.hears.ensures ∙ c.if-hears.false) (c.at-at.ensures ∙ ap (λ p. p.decoder.at) c.self.view_is) c.kind-kind.ensures,
      λ none. cc,
    )
