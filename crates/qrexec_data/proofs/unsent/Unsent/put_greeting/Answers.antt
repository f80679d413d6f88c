use Rattle.std.proofs.Common.{◌++◌, ◌∙◌, ap}
use Rattle.std.proofs.lemmas.Result.{on_ok_weaker}
use Rattle.qrexec_frame.specs.Messages.{written}
use Rattle.qrexec_data.proofs.unsent.Unsent.put_greeting.Goals as goal

pub returns : goal.returns
returns c = on_ok_weaker c.put.result (λ is. is ∙ ap (λ m. c.args.self.now ++ written m) c.announce.ensures) c.put.ensures.ok
