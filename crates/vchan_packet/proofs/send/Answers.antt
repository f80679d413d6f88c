use Rattle.std.proofs.Common.{◌≡◌, ◌||◌, ℕ, take, sym, subst, ap, ◌∙◌}
use Rattle.vchan_protocol.specs.declared.call.Answer.{Answer}
use Rattle.vchan_protocol.specs.declared.call.Call.TheVariants.{Send}
use Rattle.vchan_protocol.specs.Table.Calls.{Trace}
use Rattle.vchan_protocol.specs.History.Core.{standing_of}
use Rattle.vchan_protocol.specs.OneEnd.OneCall.{MadeOneCall}
use Rattle.vchan_protocol.specs.OneEnd.EndingLaw.{tells_end}
use Rattle.end_view.specs.AfterCall.{answered_view}
use Rattle.vchan_rule.specs.Seated.{view}
use Rattle.vchan_rule.specs.Called.{most_asked}
use Rattle.vchan_packet.specs.Packet.{send_told}
use Rattle.vchan_packet.proofs.PacketLaws.{send_answers, send_cause, send_view}
use Rattle.vchan_packet.proofs.send.Goals as goal

pub send_answer-requires : goal.send_answer-requires
send_answer-requires c =
    let trace = subst (λ (n : ℕ). Trace (standing_of c.args.end.now.side) (Send n) c.do_call.new.self.side.trail c.do_call.result) c.asked.ensures c.do_call.ensures.over.trace in
    (send_answers _ c.args.payload.now _ _ trace).0

pub returns-clause-once : goal.returns-clause-once
returns-clause-once c =
    let trace = subst (λ (n : ℕ). Trace (standing_of c.args.end.now.side) (Send n) c.do_call.new.self.side.trail c.do_call.result) c.asked.ensures c.do_call.ensures.over.trace in
    let told = ap (send_told (most_asked c.args.payload.now)) c.send_answer.ensures ∙ (send_answers _ c.args.payload.now _ _ trace).1 in
    let once = subst (λ (n : ℕ). MadeOneCall c.args.end.now.side (Send n) c.do_call.new.self.side c.do_call.result) c.asked.ensures c.do_call.ensures.once in
    subst (λ (a : Answer). MadeOneCall c.args.end.now.side (Send (most_asked c.args.payload.now)) c.do_call.new.self.side a) (sym told) once

pub returns-clause-trail : goal.returns-clause-trail
returns-clause-trail c =
    let trace = subst (λ (n : ℕ). Trace (standing_of c.args.end.now.side) (Send n) c.do_call.new.self.side.trail c.do_call.result) c.asked.ensures c.do_call.ensures.over.trace in
    let told = ap (send_told (most_asked c.args.payload.now)) c.send_answer.ensures ∙ (send_answers _ c.args.payload.now _ _ trace).1 in
    subst (λ (a : Answer). Trace (standing_of c.args.end.now.side) (Send (most_asked c.args.payload.now)) c.do_call.new.self.side.trail a) (sym told) trace

pub returns-clause-cause : goal.returns-clause-cause
returns-clause-cause c =
    let trace = subst (λ (n : ℕ). Trace (standing_of c.args.end.now.side) (Send n) c.do_call.new.self.side.trail c.do_call.result) c.asked.ensures c.do_call.ensures.over.trace in
    let told = ap (send_told (most_asked c.args.payload.now)) c.send_answer.ensures ∙ (send_answers _ c.args.payload.now _ _ trace).1 in
    send_cause (standing_of c.args.end.now.side) (most_asked c.args.payload.now) c.do_call.new.self.side.trail c.send_answer.result
    (subst (λ (a : Answer). Trace (standing_of c.args.end.now.side) (Send (most_asked c.args.payload.now)) c.do_call.new.self.side.trail a) (sym told) trace)

pub returns-clause-view : goal.returns-clause-view
returns-clause-view c =
    let n = most_asked c.args.payload.now in
    let was = view c.args.end.now in
    let trace = subst (λ (n : ℕ). Trace (standing_of c.args.end.now.side) (Send n) c.do_call.new.self.side.trail c.do_call.result) c.asked.ensures c.do_call.ensures.over.trace in
    let ends = send_answers _ c.args.payload.now _ _ trace in
    let told : c.do_call.result ≡ send_told n c.send_answer.result = sym (ap (send_told n) c.send_answer.ensures ∙ ends.1) in
    let sees : c.do_call.new.self.side.saw ≡ (was.saw || tells_end (send_told n c.send_answer.result)) = c.do_call.ensures.saw ∙ ap (λ (a : Answer). was.saw || tells_end a) told in
    c.do_call.ensures.view
    ∙ (λ i. answered_view was (Send (c.asked.ensures i)) (take (c.asked.ensures i) c.args.payload.now) c.do_call.new.buf (told i) c.do_call.new.self.side.saw)
    ∙ send_view was n c.args.payload.now c.do_call.new.buf c.do_call.new.self.side.saw c.send_answer.result (λ sent. ends.2 (sym c.send_answer.ensures ∙ sent)) sees
