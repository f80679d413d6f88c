use Rattle.qrexec_frame.proofs.PrintingLaws.{printed_reads, printed_shorter, printed_channel, printed_stays, printed_short}
use Rattle.qrexec_frame.proofs.decoder.Decoder.next_line.Goals as goal

pub returns-clause-channel : goal.returns-clause-channel
returns-clause-channel c = printed_channel c.args.self.now c.print.new.self c.args.out.now.items c.print.new.out.items c.print.result c.print.ensures.answer c.print.ensures.faulted

pub returns-clause-shorter : goal.returns-clause-shorter
returns-clause-shorter c = printed_shorter c.args.self.now c.print.new.self c.args.out.now.items c.print.new.out.items c.print.result c.print.ensures.answer c.print.ensures.faulted

pub returns-clause-stream : goal.returns-clause-stream
returns-clause-stream c = printed_reads c.args.self.now c.print.new.self c.args.out.now.items c.print.new.out.items c.print.result c.print.ensures.answer c.print.ensures.faulted

pub returns-clause-stays : goal.returns-clause-stays
returns-clause-stays c = printed_stays c.args.self.now c.print.new.self c.args.out.now.items c.print.new.out.items c.print.result c.print.ensures.answer c.print.ensures.faulted

pub returns-clause-short : goal.returns-clause-short
returns-clause-short c = printed_short c.args.self.now c.print.new.self c.args.out.now.items c.print.new.out.items c.print.result c.print.ensures.answer c.print.ensures.faulted
