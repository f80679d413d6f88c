use Rattle.std.proofs.Common.{◌∙◌, ap, arith}
use Rattle.std.proofs.lemmas.Int.{to_z-of_z}
use Rattle.std.specs.Int.{w32, cast_unsigned}
use Rattle.qrexec_frame.specs.declared.message.Message.TheVariants.{ExitCode}
use Rattle.qrexec_frame.specs.Messages.{four, framed}
use Rattle.qrexec_c.proofs.PutLaws.{puts_written}
use Rattle.qrexec_c.proofs.put.qrexec_put_exit_code.Goals as goal

pub returns : goal.returns
returns c =
    puts_written (ExitCode c.args.code) c.args.out.now c.lay_number.new.out 12 tt c.ranges.code (c.lay_number.ensures ∙ ap (λ n. framed 0x193 (four n)) (c.cast_unsigned.ensures ∙ ap (λ z. cast_unsigned w32 z) (to_z-of_z w32 c.args.code c.ranges.code))) (omega arith) (omega (arith, c.if-out-lt12.false))
