use Rattle.std.proofs.Common.{ap, sym}
use Rattle.control_port.proofs.PortLaws.{heard_end}
use Rattle.control_port.proofs.port.ControlPort.peer_gone.Goals as goal

pub returns-clause-heard : goal.returns-clause-heard
returns-clause-heard c = λ heard h. heard_end c.args.self.now _ c.peer_gone.new.end heard (sym c.self.view_is) (ap (λ e. e.got) c.peer_gone.ensures.view) h
