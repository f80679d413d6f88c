use Rattle.std.proofs.Common.{◌++◌, ◌∙◌, ap}
use Rattle.qrexec_frame.specs.Messages.{four}
use Rattle.qrexec_c.proofs.put.put_header.Goals as goal

pub returns : goal.returns
returns c = c.put_number-2.ensures ∙ ap (λ h. h ++ four c.args.len) c.put_number.ensures
