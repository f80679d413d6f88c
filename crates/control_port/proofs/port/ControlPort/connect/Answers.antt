use Rattle.std.proofs.Common.{◌≡◌, ◌↔◌, ap, sym, subst, ◌∙◌}
use Rattle.vchan_lifecycle.specs.Lifecycle.{connect_told}
use Rattle.vchan_protocol.specs.Answering.Causes.{ConnectCause}
use Rattle.vchan_protocol.specs.Answering.Loads.{loads_of}
use Rattle.vchan_protocol.specs.History.Core.{standing_of}
use Rattle.control_port.specs.Port.{PortState}
use Rattle.control_port.proofs.PortLaws.{heard_end, said_end, connected_sent, connected_got}
use Rattle.control_port.proofs.port.ControlPort.connect.Goals as goal

pub returns-clause-said : goal.returns-clause-said
returns-clause-said c = λ said h. said_end c.args.self.now _ c.connect.new.end said (sym c.self.view_is) (ap (λ e. e.sent) c.connect.ensures.view ∙ connected_sent _ _) h

pub returns-clause-heard : goal.returns-clause-heard
returns-clause-heard c = λ heard h. heard_end c.args.self.now _ c.connect.new.end heard (sym c.self.view_is) (ap (λ e. e.got) c.connect.ensures.view ∙ connected_got _ _) h

pub returns-clause-cause : goal.returns-clause-cause
returns-clause-cause c = λ other.
    subst (λ (p : PortState). (c.connect.result ≡ other) ↔ ConnectCause (standing_of p.end.side) (loads_of (standing_of p.end.side) c.connect.new.end.side.trail) (connect_told other)) c.self.view_is (c.connect.ensures.cause other)
