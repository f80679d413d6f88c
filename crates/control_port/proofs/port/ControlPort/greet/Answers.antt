use Rattle.std.proofs.Common.{◌≡◌, ◌↔◌, ◌∙◌, ap, sym, subst, true}
use Rattle.qrexec_frame.specs.declared.message.Message.{Message}
use Rattle.qrexec_frame.specs.declared.message.Message.TheVariants.{Hello}
use Rattle.qrexec_frame.specs.Messages.{written}
use Rattle.vchan_rule.specs.Seated.{view}
use Rattle.vchan_rule.specs.Called.{most_asked}
use Rattle.vchan_packet.specs.Packet.{send_told, sent_to}
use Rattle.vchan_protocol.specs.Answering.Causes.{SendCause}
use Rattle.vchan_protocol.specs.Answering.Loads.{loads_of}
use Rattle.vchan_protocol.specs.History.Core.{standing_of}
use Rattle.control_port.specs.Port.{PortState, HasHeard}
use Rattle.control_port.proofs.PortLaws.{heard_still, heard_greeted}
use Rattle.control_port.proofs.port.ControlPort.greet.Goals as goal

pub returns-then-eq-clause-heard : goal.returns-then-eq-clause-heard
returns-then-eq-clause-heard c = λ heard h.
    let P : PortState → Type 0 = λ p. HasHeard p heard in
    heard_greeted _ heard true (subst P (sym c.self-2.view_is) (heard_still c.args.self.now c.put-put.new.self heard c.put-put.ensures.same c.put-put.ensures.got h))

pub returns-else-eq-clause-heard : goal.returns-else-eq-clause-heard
returns-else-eq-clause-heard c = λ heard h. heard_still c.args.self.now c.put-put.new.self heard c.put-put.ensures.same c.put-put.ensures.got h

pub returns-then-eq-clause-view : goal.returns-then-eq-clause-view
returns-then-eq-clause-view c =
    ap (λ (p : PortState). view p.end) c.self-2.view_is ∙ c.in_ok-answer.ensures.view
    ∙ ap (λ m. sent_to (view c.args.self.now.end) c.in_ok-answer.answer (written m)) c.announce-hello.ensures
    ∙ ap (λ (p : PortState). sent_to (view c.args.self.now.end) c.in_ok-answer.answer (written (Hello p.own))) c.self.view_is

pub returns-then-eq-clause-cause : goal.returns-then-eq-clause-cause
returns-then-eq-clause-cause c = λ other.
    let e = standing_of c.args.self.now.end.side in
    let hello : c.announce-hello.result ≡ Hello c.args.self.now.own = c.announce-hello.ensures ∙ ap (λ (p : PortState). Hello p.own) c.self.view_is in
    subst (λ (z : PortState × Message). (c.in_ok-answer.answer ≡ other) ↔ SendCause e (most_asked (written z.1)) (loads_of e z.0.end.side.trail) (send_told (most_asked (written z.1)) other))
    (λ i. (sym c.self-2.view_is i, hello i)) (c.in_ok-answer.ensures.cause other)

pub returns-else-eq-clause-cause : goal.returns-else-eq-clause-cause
returns-else-eq-clause-cause c = λ other.
    let e = standing_of c.args.self.now.end.side in
    let hello : c.announce-hello.result ≡ Hello c.args.self.now.own = c.announce-hello.ensures ∙ ap (λ (p : PortState). Hello p.own) c.self.view_is in
    subst (λ (z : PortState × Message). (c.in_ok-answer.answer ≡ other) ↔ SendCause e (most_asked (written z.1)) (loads_of e z.0.end.side.trail) (send_told (most_asked (written z.1)) other))
    (λ i. (c.put-put.new.self, hello i)) (c.in_ok-answer.ensures.cause other)
