use Rattle.std.proofs.Common.{◌++◌, ◌∙◌, ap, w32}
use Rattle.std.proofs.lemmas.Int.{to_z-of_z}
use Rattle.std.proofs.lemmas.Result.{on_ok_weaker}
use Rattle.qrexec_frame.specs.Messages.{written}
use Rattle.qrexec_frame.specs.declared.message.Message.TheVariants.{ExitCode}
use Rattle.qrexec_data.proofs.unsent.Unsent.put_code.Goals as goal

pub returns : goal.returns
returns c = on_ok_weaker c.put.result (λ is. is ∙ ap (λ n. c.args.self.now ++ written (ExitCode n)) (to_z-of_z w32 c.args.code c.ranges.code)) c.put.ensures.ok
