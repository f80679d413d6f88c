use Rattle.vchan_protocol.proofs.Answering.AnswerLaws.{each_trace}
use Rattle.vchan_protocol.proofs.laws.answers.each_answer_has_its_trace.Goals as goal

pub returns : goal.returns
returns c = each_trace
