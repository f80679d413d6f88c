use Rattle.std.proofs.Common.{sym, subst}
use Rattle.vchan_protocol.specs.declared.call.Answer.{Answer}
use Rattle.vchan_protocol.specs.declared.call.Call.TheVariants.{Connect}
use Rattle.vchan_protocol.specs.Table.Calls.{Trace}
use Rattle.vchan_protocol.specs.History.Core.{standing_of}
use Rattle.vchan_lifecycle.proofs.LifecycleLaws.{connect_answers, connect_cause}
use Rattle.vchan_lifecycle.proofs.connect.Goals as goal

pub connect_answer-requires : goal.connect_answer-requires
connect_answer-requires c = connect_answers (standing_of c.args.end.now.side) _ _ c.do_call.ensures.over.trace

pub returns-clause-cause : goal.returns-clause-cause
returns-clause-cause c =
    connect_cause (standing_of c.args.end.now.side) c.do_call.new.self.side.trail c.connect_answer.result
    (subst (λ (a : Answer). Trace (standing_of c.args.end.now.side) Connect c.do_call.new.self.side.trail a) (sym c.connect_answer.ensures) c.do_call.ensures.over.trace)
