use Rattle.std.proofs.Common.{rules, arith}
use Rattle.qrexec_frame.specs.declared.message.Message.TheVariants.{Refused}
use Rattle.qrexec_frame.specs.Messages.{Fits}
use Rattle.qrexec_c.proofs.PutLaws.{puts_written}
use Rattle.qrexec_c.proofs.put.qrexec_put_refused.Goals as goal

pub returns : goal.returns
returns c =
    let fits : Fits (Refused c.args.ident.now) = search rules in
    puts_written (Refused c.args.ident.now) c.args.out.now c.lay_refused.new.out 40 fits tt c.lay_refused.ensures (omega arith) (omega (arith, c.if-out-lt40.false))
