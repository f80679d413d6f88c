use Rattle.std.proofs.Common.{◌≡◌, ◌||◌, ℕ, [], sym, subst, ap, ◌∙◌}
use Rattle.vchan_protocol.specs.declared.call.Answer.{Answer}
use Rattle.vchan_protocol.specs.declared.call.Call.TheVariants.{Recv}
use Rattle.vchan_protocol.specs.Table.Calls.{Trace}
use Rattle.vchan_protocol.specs.History.Core.{standing_of}
use Rattle.vchan_protocol.specs.OneEnd.OneCall.{MadeOneCall}
use Rattle.vchan_protocol.specs.OneEnd.EndingLaw.{tells_end}
use Rattle.end_view.specs.AfterCall.{answered_view}
use Rattle.vchan_rule.specs.Seated.{view}
use Rattle.vchan_rule.specs.Called.{most_asked}
use Rattle.vchan_packet.specs.Packet.{recv_told}
use Rattle.vchan_packet.proofs.PacketLaws.{recv_answers, recv_cause, recv_view}
use Rattle.vchan_packet.proofs.recv.Goals as goal

pub recv_answer-requires : goal.recv_answer-requires
recv_answer-requires c =
    let trace = subst (λ (n : ℕ). Trace (standing_of c.args.end.now.side) (Recv n) c.do_call.new.self.side.trail c.do_call.result) c.asked.ensures c.do_call.ensures.over.trace in
    (recv_answers _ c.args.buf.now _ _ trace).0

pub returns-clause-once : goal.returns-clause-once
returns-clause-once c =
    let trace = subst (λ (n : ℕ). Trace (standing_of c.args.end.now.side) (Recv n) c.do_call.new.self.side.trail c.do_call.result) c.asked.ensures c.do_call.ensures.over.trace in
    let told = ap (recv_told (most_asked c.args.buf.now)) c.recv_answer.ensures ∙ (recv_answers _ c.args.buf.now _ _ trace).1 in
    let once = subst (λ (n : ℕ). MadeOneCall c.args.end.now.side (Recv n) c.do_call.new.self.side c.do_call.result) c.asked.ensures c.do_call.ensures.once in
    subst (λ (a : Answer). MadeOneCall c.args.end.now.side (Recv (most_asked c.args.buf.now)) c.do_call.new.self.side a) (sym told) once

pub returns-clause-trail : goal.returns-clause-trail
returns-clause-trail c =
    let trace = subst (λ (n : ℕ). Trace (standing_of c.args.end.now.side) (Recv n) c.do_call.new.self.side.trail c.do_call.result) c.asked.ensures c.do_call.ensures.over.trace in
    let told = ap (recv_told (most_asked c.args.buf.now)) c.recv_answer.ensures ∙ (recv_answers _ c.args.buf.now _ _ trace).1 in
    subst (λ (a : Answer). Trace (standing_of c.args.end.now.side) (Recv (most_asked c.args.buf.now)) c.do_call.new.self.side.trail a) (sym told) trace

pub returns-clause-cause : goal.returns-clause-cause
returns-clause-cause c =
    let trace = subst (λ (n : ℕ). Trace (standing_of c.args.end.now.side) (Recv n) c.do_call.new.self.side.trail c.do_call.result) c.asked.ensures c.do_call.ensures.over.trace in
    let told = ap (recv_told (most_asked c.args.buf.now)) c.recv_answer.ensures ∙ (recv_answers _ c.args.buf.now _ _ trace).1 in
    recv_cause (standing_of c.args.end.now.side) (most_asked c.args.buf.now) c.do_call.new.self.side.trail c.recv_answer.result
    (subst (λ (a : Answer). Trace (standing_of c.args.end.now.side) (Recv (most_asked c.args.buf.now)) c.do_call.new.self.side.trail a) (sym told) trace)

pub returns-clause-view : goal.returns-clause-view
returns-clause-view c =
    let n = most_asked c.args.buf.now in
    let was = view c.args.end.now in
    let trace = subst (λ (n : ℕ). Trace (standing_of c.args.end.now.side) (Recv n) c.do_call.new.self.side.trail c.do_call.result) c.asked.ensures c.do_call.ensures.over.trace in
    let ends = recv_answers _ c.args.buf.now _ _ trace in
    let told : c.do_call.result ≡ recv_told n c.recv_answer.result = sym (ap (recv_told n) c.recv_answer.ensures ∙ ends.1) in
    let sees : c.do_call.new.self.side.saw ≡ (was.saw || tells_end (recv_told n c.recv_answer.result)) = c.do_call.ensures.saw ∙ ap (λ (a : Answer). was.saw || tells_end a) told in
    c.do_call.ensures.view
    ∙ (λ i. answered_view was (Recv (c.asked.ensures i)) [] c.do_call.new.buf (told i) c.do_call.new.self.side.saw)
    ∙ recv_view was n [] c.do_call.new.buf c.do_call.new.self.side.saw c.recv_answer.result (λ got. ends.2 (sym c.recv_answer.ensures ∙ got) ∙ sym c.do_call.ensures.long) sees
