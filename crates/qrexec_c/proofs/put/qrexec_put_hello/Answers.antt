use Rattle.std.proofs.Common.{arith}
use Rattle.qrexec_frame.specs.declared.message.Message.TheVariants.{Hello}
use Rattle.qrexec_c.proofs.PutLaws.{puts_written}
use Rattle.qrexec_c.proofs.put.qrexec_put_hello.Goals as goal

pub returns : goal.returns
returns c =
    puts_written (Hello c.args.version) c.args.out.now c.lay_number.new.out 12 tt (omega arith) c.lay_number.ensures (omega arith) (omega (arith, c.if-out-lt12.false))
