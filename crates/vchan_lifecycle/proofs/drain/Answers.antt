use Rattle.std.proofs.Common.{ℕ, sym, subst, arith}
use Rattle.vchan_protocol.specs.declared.call.Answer.{Answer}
use Rattle.vchan_protocol.specs.declared.call.Call.TheVariants.{Drain}
use Rattle.vchan_protocol.specs.Table.Calls.{Trace}
use Rattle.vchan_protocol.specs.History.Core.{standing_of}
use Rattle.vchan_lifecycle.proofs.LifecycleLaws.{drain_answers, drain_asks, drain_cause, drain_some}
use Rattle.vchan_lifecycle.proofs.drain.Goals as goal
use Rattle.vchan_rule.specs.Called.{most_asked}

pub drain_answer-requires : goal.drain_answer-requires
drain_answer-requires c = drain_answers (standing_of c.args.end.now.side) _ _ _ c.do_call.ensures.over.trace

pub returns-clause-cause : goal.returns-clause-cause
returns-clause-cause c =
    drain_cause (standing_of c.args.end.now.side) (most_asked c.args.buf.now) c.do_call.new.self.side.trail c.drain_answer.result
    (subst (λ (a : Answer). Trace (standing_of c.args.end.now.side) (Drain (most_asked c.args.buf.now)) c.do_call.new.self.side.trail a) (sym c.drain_answer.ensures)
    (subst (λ (n : ℕ). Trace (standing_of c.args.end.now.side) (Drain n) c.do_call.new.self.side.trail c.do_call.result) c.asked.ensures c.do_call.ensures.over.trace))

pub returns-clause-more : goal.returns-clause-more
returns-clause-more c =
    drain_some (standing_of c.args.end.now.side) (most_asked c.args.buf.now) c.do_call.new.self.side.trail c.drain_answer.result (let some = c.requires.some in omega (arith, some))
    (subst (λ (a : Answer). Trace (standing_of c.args.end.now.side) (Drain (most_asked c.args.buf.now)) c.do_call.new.self.side.trail a) (sym c.drain_answer.ensures)
    (subst (λ (n : ℕ). Trace (standing_of c.args.end.now.side) (Drain n) c.do_call.new.self.side.trail c.do_call.result) c.asked.ensures c.do_call.ensures.over.trace))

pub returns-clause-asks : goal.returns-clause-asks
returns-clause-asks c = drain_asks (standing_of c.args.end.now.side) _ _ _ c.do_call.ensures.over.trace
