use Rattle.std.proofs.Common.{ℕ, sym, subst}
use Rattle.vchan_protocol.specs.declared.call.Answer.{Answer}
use Rattle.vchan_protocol.specs.declared.call.Call.TheVariants.{Write}
use Rattle.vchan_protocol.specs.Table.Calls.{Trace}
use Rattle.vchan_protocol.specs.History.Core.{standing_of}
use Rattle.vchan_stream.proofs.StreamLaws.{write_answers, write_cause}
use Rattle.vchan_stream.proofs.write.Goals as goal
use Rattle.vchan_rule.specs.Called.{most_asked}

pub write_answer-requires : goal.write_answer-requires
write_answer-requires c = write_answers _ _ _ _ c.do_call.ensures.over.trace

pub returns-clause-cause : goal.returns-clause-cause
returns-clause-cause c =
    let trace = c.do_call.ensures.over.trace in
    write_cause (standing_of c.args.end.now.side) (most_asked c.args.payload.now) c.do_call.new.self.side.trail c.write_answer.result
    (subst (λ (a : Answer). Trace (standing_of c.args.end.now.side) (Write (most_asked c.args.payload.now)) c.do_call.new.self.side.trail a) (sym c.write_answer.ensures)
    (subst (λ (n : ℕ). Trace (standing_of c.args.end.now.side) (Write n) c.do_call.new.self.side.trail c.do_call.result) c.asked.ensures trace))
