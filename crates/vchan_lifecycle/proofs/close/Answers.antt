use Rattle.std.proofs.Common.{subst, ◌∙◌}
use Rattle.vchan_protocol.specs.declared.call.Answer.{Answer}
use Rattle.vchan_protocol.specs.declared.call.Call.TheVariants.{Close}
use Rattle.vchan_protocol.specs.Table.Calls.{Trace}
use Rattle.vchan_protocol.specs.History.Core.{standing_of}
use Rattle.vchan_protocol.specs.OneEnd.OneCall.{MadeOneCall}
use Rattle.vchan_rule.specs.Seated.{view}
use Rattle.vchan_lifecycle.proofs.LifecycleLaws.{close_done, close_events, close_view}
use Rattle.vchan_lifecycle.proofs.close.Goals as goal

pub returns-clause-once : goal.returns-clause-once
returns-clause-once c =
    subst (λ (a : Answer). MadeOneCall c.args.end.now.side Close c.do_call.new.self.side a) (close_done (standing_of c.args.end.now.side) _ _ c.do_call.ensures.over.trace) c.do_call.ensures.once

pub returns-clause-trail : goal.returns-clause-trail
returns-clause-trail c =
    let trace = c.do_call.ensures.over.trace in
    subst (λ (a : Answer). Trace (standing_of c.args.end.now.side) Close c.do_call.new.self.side.trail a) (close_done (standing_of c.args.end.now.side) _ _ trace) trace

pub returns-clause-events : goal.returns-clause-events
returns-clause-events c = close_events (standing_of c.args.end.now.side) _ _ c.do_call.ensures.over.trace

pub returns-clause-view : goal.returns-clause-view
returns-clause-view c =
    let done = close_done (standing_of c.args.end.now.side) _ _ c.do_call.ensures.over.trace in
    c.do_call.ensures.view ∙ close_view (view c.args.end.now) _ c.do_call.new.buf c.do_call.result c.do_call.new.self.side.saw done c.do_call.ensures.saw
