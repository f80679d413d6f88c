use Rattle.std.proofs.Common.{◌+◌, length, arith}
use Rattle.qrexec_frame.specs.declared.message.Message.TheVariants.{Stdout}
use Rattle.qrexec_c.proofs.PutLaws.{puts_written}
use Rattle.qrexec_c.proofs.put.qrexec_put_stdout.Goals as goal

pub returns : goal.returns
returns c =
    puts_written (Stdout c.args.bytes.now) c.args.out.now c.lay_bytes.new.out (8 + length c.args.bytes.now) (omega (arith, c.if-bytes-gt-MOST_BYTES.false)) tt c.lay_bytes.ensures (omega arith) (omega (arith, c.if-out-bytes.false))
