use Rattle.std.proofs.Common.{ℕ, sym, subst}
use Rattle.vchan_protocol.specs.declared.call.Answer.{Answer}
use Rattle.vchan_protocol.specs.declared.call.Call.TheVariants.{Read}
use Rattle.vchan_protocol.specs.Table.Calls.{Trace}
use Rattle.vchan_protocol.specs.History.Core.{standing_of}
use Rattle.vchan_stream.proofs.StreamLaws.{read_answers, read_cause}
use Rattle.vchan_stream.proofs.read.Goals as goal
use Rattle.vchan_rule.specs.Called.{most_asked}

pub read_answer-requires : goal.read_answer-requires
read_answer-requires c = read_answers _ _ _ _ c.do_call.ensures.over.trace

pub returns-clause-cause : goal.returns-clause-cause
returns-clause-cause c =
    let trace = c.do_call.ensures.over.trace in
    read_cause (standing_of c.args.end.now.side) (most_asked c.args.buf.now) c.do_call.new.self.side.trail c.read_answer.result
    (subst (λ (a : Answer). Trace (standing_of c.args.end.now.side) (Read (most_asked c.args.buf.now)) c.do_call.new.self.side.trail a) (sym c.read_answer.ensures)
    (subst (λ (n : ℕ). Trace (standing_of c.args.end.now.side) (Read n) c.do_call.new.self.side.trail c.do_call.result) c.asked.ensures trace))
