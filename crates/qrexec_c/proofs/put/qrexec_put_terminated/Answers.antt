use Rattle.std.proofs.Common.{arith}
use Rattle.qrexec_frame.specs.declared.message.Message.TheVariants.{Terminated}
use Rattle.qrexec_c.proofs.PutLaws.{puts_written}
use Rattle.qrexec_c.proofs.put.qrexec_put_terminated.Goals as goal

pub returns : goal.returns
returns c =
    puts_written (Terminated c.args.domain c.args.port) c.args.out.now c.lay_terminated.new.out 16 tt (omega arith, omega arith) c.lay_terminated.ensures (omega arith) (omega (arith, c.if-out-lt16.false))
