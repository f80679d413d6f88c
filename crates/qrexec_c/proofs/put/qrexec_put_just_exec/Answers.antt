use Rattle.std.proofs.Common.{rules, ◌+◌, length, arith}
use Rattle.qrexec_frame.specs.declared.message.Message.TheVariants.{JustExec}
use Rattle.qrexec_frame.specs.Messages.{Fits}
use Rattle.qrexec_c.proofs.PutLaws.{puts_written}
use Rattle.qrexec_c.proofs.put.qrexec_put_just_exec.Goals as goal

pub returns : goal.returns
returns c =
    let fits : Fits (JustExec c.args.domain c.args.port c.args.line.now) = search rules in
    puts_written (JustExec c.args.domain c.args.port c.args.line.now) c.args.out.now c.lay_line.new.out (17 + length c.args.line.now) fits (omega arith, omega arith) c.lay_line.ensures (omega arith) (omega (arith, c.if-out-line.false))
