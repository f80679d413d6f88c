use Rattle.std.proofs.Common.{◌≡◌, ◌↔◌, ◌∙◌, ◌++◌, ℕ, List, ap, subst}
use Rattle.qrexec_frame.specs.Messages.{written}
use Rattle.vchan_packet.specs.Packet.{send_told}
use Rattle.vchan_protocol.specs.Answering.Causes.{SendCause}
use Rattle.vchan_protocol.specs.Answering.Loads.{loads_of}
use Rattle.vchan_protocol.specs.History.Core.{standing_of}
use Rattle.control_port.specs.Port.{PortState}
use Rattle.control_port.proofs.port.ControlPort.put.Goals as goal
use Rattle.vchan_rule.specs.Called.{most_asked}

pub returns-clause-cause : goal.returns-clause-cause
returns-clause-cause c = λ other.
    let spelled : c.deref.result.now ≡ written c.args.message.now = c.deref.ensures.value ∙ c.in_ok-encode.ensures.ok ∙ ap (λ (z : List ℕ). z ++ written c.args.message.now) c.clear.ensures.items in
    subst (λ (z : PortState × List ℕ). (c.send-answer.result ≡ other) ↔ SendCause (standing_of z.0.end.side) (most_asked z.1) (loads_of (standing_of z.0.end.side) c.send-answer.new.end.side.trail) (send_told (most_asked z.1) other))
    (λ i. (c.self.view_is i, spelled i)) (c.send-answer.ensures.cause other)
