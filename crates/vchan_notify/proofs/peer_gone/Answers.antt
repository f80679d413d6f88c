use Rattle.std.proofs.Common.{sym, subst}
use Rattle.vchan_protocol.specs.declared.call.Answer.{Answer}
use Rattle.vchan_protocol.specs.declared.call.Call.TheVariants.{PeerGone}
use Rattle.vchan_protocol.specs.Table.Calls.{Trace}
use Rattle.vchan_protocol.specs.History.Core.{standing_of}
use Rattle.vchan_protocol.specs.OneEnd.OneCall.{MadeOneCall}
use Rattle.vchan_protocol.proofs.Answering.AnswerLaws.{has_cause}
use Rattle.vchan_notify.proofs.NotifyLaws.{gone_answers, found_gone}
use Rattle.vchan_notify.proofs.peer_gone.Goals as goal

pub is_gone-requires : goal.is_gone-requires
is_gone-requires c = gone_answers (standing_of c.args.end.now.side) _ _ c.do_call.ensures.over.trace

pub returns-clause-once : goal.returns-clause-once
returns-clause-once c = subst (λ (a : Answer). MadeOneCall c.args.end.now.side PeerGone c.do_call.new.self.side a) (sym c.is_gone.ensures) c.do_call.ensures.once

pub returns-clause-trail : goal.returns-clause-trail
returns-clause-trail c = subst (λ (a : Answer). Trace (standing_of c.args.end.now.side) PeerGone c.do_call.new.self.side.trail a) (sym c.is_gone.ensures) c.do_call.ensures.over.trace

pub returns-clause-cause : goal.returns-clause-cause
returns-clause-cause c = has_cause _ PeerGone _ _ (subst (λ (a : Answer). Trace (standing_of c.args.end.now.side) PeerGone c.do_call.new.self.side.trail a) (sym c.is_gone.ensures) c.do_call.ensures.over.trace)

pub returns-clause-noted : goal.returns-clause-noted
returns-clause-noted c = found_gone c.args.end.now.side c.do_call.new.self.side _ c.do_call.result c.is_gone.result c.do_call.ensures.over.trace c.do_call.ensures.over.is c.is_gone.ensures
