use Rattle.std.proofs.Common.{ap, sym}
use Rattle.control_port.proofs.PortLaws.{heard_end}
use Rattle.control_port.proofs.port.ControlPort.room.Goals as goal

pub returns-clause-heard : goal.returns-clause-heard
returns-clause-heard c = λ heard h. heard_end c.args.self.now _ c.buffer_space.new.end heard (sym c.self.view_is) (ap (λ e. e.got) c.buffer_space.ensures.view) h
