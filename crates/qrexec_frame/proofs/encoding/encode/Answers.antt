use Rattle.qrexec_frame.proofs.WrittenLaws.{written_spelled, is_read_again}
use Rattle.qrexec_frame.proofs.encoding.encode.Goals as goal

pub returns-clause-spelled : goal.returns-clause-spelled
returns-clause-spelled c = λ channel goes. written_spelled channel c.args.message.now (c.requires, c.put_body.ensures.numbers) goes

pub returns-clause-read_again : goal.returns-clause-read_again
returns-clause-read_again c = λ channel more goes. is_read_again channel c.args.message.now more ((c.requires, c.put_body.ensures.numbers), goes)
