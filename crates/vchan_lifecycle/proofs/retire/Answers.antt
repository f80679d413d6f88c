use Rattle.std.proofs.Common.{sym, subst, ap, ◌∙◌}
use Rattle.vchan_protocol.specs.declared.call.Answer.{Answer}
use Rattle.vchan_protocol.specs.declared.call.Answer.TheVariants.{Done}
use Rattle.vchan_protocol.specs.declared.call.Call.TheVariants.{Retire}
use Rattle.vchan_protocol.specs.declared.side.Side.{Side}
use Rattle.vchan_protocol.specs.Table.Calls.{Trace}
use Rattle.vchan_protocol.specs.History.Core.{standing_of}
use Rattle.vchan_protocol.specs.OneEnd.OneCall.{MadeOneCall}
use Rattle.vchan_rule.specs.Seated.{view}
use Rattle.vchan_lifecycle.specs.Lifecycle.{ops}
use Rattle.vchan_lifecycle.proofs.LifecycleLaws.{retire_done, retire_events, retire_view, rest_view}
use Rattle.vchan_lifecycle.proofs.retire.Goals as goal

pub returns-clause-once : goal.returns-clause-once
returns-clause-once c =
    subst (λ (s : Side). MadeOneCall c.args.end.side Retire s Done) (sym c.rest.ensures.same.1)
    (subst (λ (a : Answer). MadeOneCall c.args.end.side Retire c.do_call.new.self.side a) (retire_done (standing_of c.args.end.side) _ _ c.do_call.ensures.over.trace) c.do_call.ensures.once)

pub returns-clause-trail : goal.returns-clause-trail
returns-clause-trail c =
    let trace = c.do_call.ensures.over.trace in
    let done = retire_done (standing_of c.args.end.side) _ _ trace in
    subst (λ (s : Side). Trace (standing_of c.args.end.side) Retire s.trail Done) (sym c.rest.ensures.same.1)
    (subst (λ (a : Answer). Trace (standing_of c.args.end.side) Retire c.do_call.new.self.side.trail a) done trace)

pub returns-clause-events : goal.returns-clause-events
returns-clause-events c =
    ap (λ (s : Side). ops s.trail) c.rest.ensures.same.1 ∙ retire_events (standing_of c.args.end.side) _ _ c.do_call.ensures.over.trace

pub returns-clause-view : goal.returns-clause-view
returns-clause-view c =
    let done = retire_done (standing_of c.args.end.side) _ _ c.do_call.ensures.over.trace in
    rest_view c.do_call.new.self c.rest.result c.rest.ensures.same.0 c.rest.ensures.same.1 c.do_call.ensures.idle.0
    ∙ c.do_call.ensures.view
    ∙ retire_view (view c.args.end) _ c.do_call.new.buf c.do_call.result c.do_call.new.self.side.saw done c.do_call.ensures.saw
