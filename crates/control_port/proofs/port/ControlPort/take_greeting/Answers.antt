use Rattle.std.proofs.Common.{◌∙◌, ap, refl, sym, subst}
use Rattle.qrexec_hello.specs.Greeting.{greeting}
use Rattle.control_port.specs.Port.{Takes}
use Rattle.control_port.proofs.PortLaws.{greets_ok, greets_not}
use Rattle.control_port.proofs.port.ControlPort.take_greeting.Goals as goal

pub returns-in-None-clause-greets : goal.returns-in-None-clause-greets
returns-in-None-clause-greets c = λ heard h. subst (λ o. Takes c.args.self.now c.take.new.self heard o) c.in-None.is (c.in_ok-message.ensures.takes heard h)

pub returns-in-Ok-clause-greets : goal.returns-in-Ok-clause-greets
returns-in-Ok-clause-greets c = λ heard h.
    let t = subst (λ o. Takes c.args.self.now c.take.new.self heard o) c.in-Some.is (c.in_ok-message.ensures.takes heard h) in
    let greets = ap (λ s. greeting s.own c.in-Some.message) (sym c.start.ensures) ∙ sym c.in-Ok.ensures.greeting in (
      greets_ok c.args.self.now c.take.new.self _ heard c.in-Some.message c.in-Ok.version (sym c.self.view_is) t c.requires.first c.in_ok-message.ensures.only.0 greets,
      refl,
      ap (λ p. p.fault) c.self.view_is ∙ t.fault_is,
    )

pub returns-in-Err-clause-greets : goal.returns-in-Err-clause-greets
returns-in-Err-clause-greets c = λ heard h.
    let t = subst (λ o. Takes c.args.self.now c.take.new.self heard o) c.in-Some.is (c.in_ok-message.ensures.takes heard h) in
    let greets = ap (λ s. greeting s.own c.in-Some.message) (sym c.start.ensures) ∙ sym c.in-Err.ensures.greeting in (
      greets_not c.args.self.now c.take.new.self _ heard c.in-Some.message c.in-Err.fault (sym c.self.view_is) t c.requires.first c.in_ok-message.ensures.only.0 c.in_ok-message.ensures.only.1 greets,
      λ none. cc,
    )
