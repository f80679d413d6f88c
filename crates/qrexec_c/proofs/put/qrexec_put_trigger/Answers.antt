use Rattle.std.proofs.Common.{rules, arith}
use Rattle.qrexec_frame.specs.declared.message.Message.TheVariants.{Trigger}
use Rattle.qrexec_frame.specs.Messages.{Fits}
use Rattle.qrexec_c.proofs.PutLaws.{puts_written}
use Rattle.qrexec_c.proofs.put.qrexec_put_trigger.Goals as goal

pub returns : goal.returns
returns c =
    let fits : Fits (Trigger c.args.target.now c.args.ident.now c.args.service.now) = search rules in
    puts_written (Trigger c.args.target.now c.args.ident.now c.args.service.now) c.args.out.now c.lay_trigger.new.out 136 fits tt c.lay_trigger.ensures (omega arith) (omega (arith, c.if-out-lt136.false))
