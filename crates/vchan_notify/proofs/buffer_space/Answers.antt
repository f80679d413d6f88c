use Rattle.std.proofs.Common.{sym, subst}
use Rattle.vchan_protocol.specs.declared.call.Answer.{Answer}
use Rattle.vchan_protocol.specs.declared.call.Call.TheVariants.{BufferSpace}
use Rattle.vchan_protocol.specs.Table.Calls.{Trace}
use Rattle.vchan_protocol.specs.History.Core.{standing_of}
use Rattle.vchan_protocol.specs.OneEnd.OneCall.{MadeOneCall}
use Rattle.vchan_protocol.proofs.Answering.AnswerLaws.{has_cause}
use Rattle.vchan_notify.proofs.NotifyLaws.{space_answers}
use Rattle.vchan_notify.proofs.buffer_space.Goals as goal

pub space_count-requires : goal.space_count-requires
space_count-requires c = space_answers (standing_of c.args.end.now.side) _ _ c.do_call.ensures.over.trace

pub returns-clause-once : goal.returns-clause-once
returns-clause-once c = subst (λ (a : Answer). MadeOneCall c.args.end.now.side BufferSpace c.do_call.new.self.side a) (sym c.space_count.ensures) c.do_call.ensures.once

pub returns-clause-trail : goal.returns-clause-trail
returns-clause-trail c = subst (λ (a : Answer). Trace (standing_of c.args.end.now.side) BufferSpace c.do_call.new.self.side.trail a) (sym c.space_count.ensures) c.do_call.ensures.over.trace

pub returns-clause-cause : goal.returns-clause-cause
returns-clause-cause c = has_cause _ BufferSpace _ _ (subst (λ (a : Answer). Trace (standing_of c.args.end.now.side) BufferSpace c.do_call.new.self.side.trail a) (sym c.space_count.ensures) c.do_call.ensures.over.trace)
