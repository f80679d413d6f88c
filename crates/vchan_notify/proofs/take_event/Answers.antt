use Rattle.std.proofs.Common.{sym, subst}
use Rattle.vchan_protocol.specs.declared.call.Answer.{Answer}
use Rattle.vchan_protocol.specs.declared.call.Call.TheVariants.{TakeEvent}
use Rattle.vchan_protocol.specs.Table.Calls.{Trace}
use Rattle.vchan_protocol.specs.History.Core.{standing_of}
use Rattle.vchan_protocol.specs.OneEnd.OneCall.{MadeOneCall}
use Rattle.vchan_protocol.proofs.Answering.AnswerLaws.{has_cause}
use Rattle.vchan_notify.proofs.NotifyLaws.{event_answers}
use Rattle.vchan_notify.proofs.take_event.Goals as goal

pub was_signalled-requires : goal.was_signalled-requires
was_signalled-requires c = event_answers (standing_of c.args.end.now.side) _ _ c.do_call.ensures.over.trace

pub returns-clause-once : goal.returns-clause-once
returns-clause-once c = subst (λ (a : Answer). MadeOneCall c.args.end.now.side TakeEvent c.do_call.new.self.side a) (sym c.was_signalled.ensures) c.do_call.ensures.once

pub returns-clause-trail : goal.returns-clause-trail
returns-clause-trail c = subst (λ (a : Answer). Trace (standing_of c.args.end.now.side) TakeEvent c.do_call.new.self.side.trail a) (sym c.was_signalled.ensures) c.do_call.ensures.over.trace

pub returns-clause-cause : goal.returns-clause-cause
returns-clause-cause c = has_cause _ TakeEvent _ _ (subst (λ (a : Answer). Trace (standing_of c.args.end.now.side) TakeEvent c.do_call.new.self.side.trail a) (sym c.was_signalled.ensures) c.do_call.ensures.over.trace)
