use Rattle.qrexec_frame.proofs.DecodingLaws.{answers_grammar, next_reads, next_fits, next_short}
use Rattle.qrexec_frame.proofs.decoder.Decoder.next.Goals as goal

pub returns-clause-grammar : goal.returns-clause-grammar
returns-clause-grammar c = λ sound. answers_grammar c.args.self.now c.give.new.self c.give.result (c.give.ensures.answer sound)

pub returns-clause-stream : goal.returns-clause-stream
returns-clause-stream c = next_reads c.args.self.now c.give.new.self c.give.result c.give.ensures.answer c.give.ensures.faulted

pub returns-clause-fits : goal.returns-clause-fits
returns-clause-fits c = next_fits c.args.self.now c.give.new.self c.give.result c.give.ensures.answer c.give.ensures.faulted c.give.ensures.fits

pub returns-clause-short : goal.returns-clause-short
returns-clause-short c = next_short c.args.self.now c.give.new.self c.give.result c.give.ensures.answer c.give.ensures.faulted
