use Rattle.vchan_core.proofs.Page.PlainLaws.{invariant_begin}
use Rattle.vchan_core.proofs.plain.Plain.begin.Goals as goal

pub returns-clause-invariant : goal.returns-clause-invariant
returns-clause-invariant c = λ core payload h pays bytes kept. invariant_begin core c.args.self.now c.args.who c.args.call payload h c.requires.honest c.requires.allowed pays bytes kept
