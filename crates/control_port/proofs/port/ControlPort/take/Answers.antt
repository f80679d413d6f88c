use Rattle.std.proofs.Common.{sym, subst}
use Rattle.std.specs.Prelude.{Err}
use Rattle.qrexec_frame.specs.Decoding.{Reads}
use Rattle.control_port.proofs.PortLaws.{takes_ok, takes_fault}
use Rattle.control_port.proofs.port.ControlPort.take.Goals as goal

pub returns-in-Ok-clause-takes : goal.returns-in-Ok-clause-takes
returns-in-Ok-clause-takes c = λ heard h.
    takes_ok c.args.self.now _ c.next.new.self heard c.in-Ok.message (sym c.self.view_is) h c.requires.fine (λ got given s. c.in-Ok.ensures.stream got given s) (λ none. c.in-Ok.ensures.answer none)

pub returns-in-Err-Fault-clause-takes : goal.returns-in-Err-Fault-clause-takes
returns-in-Err-Fault-clause-takes c = λ heard h. (
  takes_fault c.args.self.now _ c.next.new.self heard c.in-Err-Fault.fault (sym c.self.view_is) h
      (λ got given s. subst (λ r. Reads c.self.inside.decoder c.next.new.self got given (Err r)) c.in-Err-Fault.field-0-is (c.in-Err-Fault.ensures.stream got given s)),
  λ none. cc,
)
