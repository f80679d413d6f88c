use Rattle.std.proofs.Common.{rules, ◌+◌, length, arith}
use Rattle.qrexec_frame.specs.declared.message.Message.TheVariants.{Trigger3}
use Rattle.qrexec_frame.specs.Messages.{Fits}
use Rattle.qrexec_c.proofs.PutLaws.{puts_written}
use Rattle.qrexec_c.proofs.put.qrexec_put_trigger3.Goals as goal

pub returns : goal.returns
returns c =
    let fits : Fits (Trigger3 c.args.target.now c.args.ident.now c.args.service.now) = search rules in
    puts_written (Trigger3 c.args.target.now c.args.ident.now c.args.service.now) c.args.out.now c.lay_trigger3.new.out (105 + length c.args.service.now) fits tt c.lay_trigger3.ensures (omega arith) (omega (arith, c.if-out-service.false))
