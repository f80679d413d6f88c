use Rattle.vchan_protocol.proofs.Answering.AnswerLaws.{tells_transfer}
use Rattle.vchan_protocol.proofs.laws.answers.each_answer_tells_its_transfer.Goals as goal

pub returns : goal.returns
returns c = tells_transfer
