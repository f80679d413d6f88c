use Rattle.std.proofs.Common.{rules, arith}
use Rattle.qrexec_frame.specs.declared.message.Message.TheVariants.{Connect}
use Rattle.qrexec_frame.specs.Messages.{Fits}
use Rattle.qrexec_c.proofs.PutLaws.{puts_written}
use Rattle.qrexec_c.proofs.put.qrexec_put_connect.Goals as goal

pub returns : goal.returns
returns c =
    let fits : Fits (Connect c.args.domain c.args.port c.args.ident.now) = search rules in
    puts_written (Connect c.args.domain c.args.port c.args.ident.now) c.args.out.now c.lay_connect.new.out 48 fits (omega arith, omega arith) c.lay_connect.ensures (omega arith) (omega (arith, c.if-out-lt48.false))
