-- A send and a recv: their answers, and what they make of the view of their end.
use Rattle.std.proofs.Common.{◌≡◌, ◌↔◌, ℕ, ◌≤◌, ◌++◌, ◌||◌, Bool, true, min, List, length, take, refl, sym, ap, ◌∙◌, subst, arith, append-nil}
use Rattle.std.proofs.lemmas.List.{take-take, take_all}
use Rattle.std.proofs.Math.Bool.{or-false, or-true}
use Rattle.ring_words.specs.Rings.{size}
use Rattle.ring_words.proofs.RingLaws.{room_within, ready_within, size_within}
use Rattle.ring_words.specs.declared.order.Order.{Order}
use Rattle.vchan_protocol.specs.declared.call.Answer.{Answer}
use Rattle.vchan_protocol.specs.declared.call.Answer.TheVariants.{Sent, NoRoom, Got, Short, PeerClosed}
use Rattle.vchan_protocol.specs.declared.call.Call.TheVariants.{Send, Recv}
use Rattle.vchan_protocol.specs.declared.op.PastEvent.{PastEvent}
use Rattle.vchan_protocol.specs.Table.Ends.{Standing, write_order, read_order}
use Rattle.vchan_protocol.specs.Table.Calls.{Trace}
use Rattle.vchan_protocol.specs.Answering.Causes.{SendCause, send_closed, send_no_room, sent_all, RecvCause, recv_got, recv_closed, recv_short, room_at, waiting_at}
use Rattle.vchan_protocol.specs.Answering.Loads.{loads_of}
use Rattle.vchan_protocol.proofs.Answering.AnswerLaws.{has_cause, each_cause}
use Rattle.vchan_protocol.specs.OneEnd.EndingLaw.{tells_end}
use Rattle.end_view.specs.EndView.{EndView}
use Rattle.end_view.specs.AfterCall.{answered_view}
use Rattle.end_view.proofs.QuietLaws.{quiet_view}
use Rattle.vchan_packet.specs.declared.SendAnswer.{SendAnswer}
use Rattle.vchan_packet.specs.declared.SendAnswer.TheVariants.{Sent as HasSent, NoRoom as HasNoRoom, PeerClosed as SendClosed}
use Rattle.vchan_packet.specs.declared.RecvAnswer.{RecvAnswer}
use Rattle.vchan_packet.specs.declared.RecvAnswer.TheVariants.{Got as HasGot, Short as IsShort, PeerClosed as RecvClosed}
use Rattle.vchan_packet.specs.Packet.{AnswersSend, AnswersRecv, send_told, recv_told, told_send, told_recv, sent_to, received_from}
use Rattle.vchan_rule.specs.Called.{most_asked}

-- if all that was asked for fits a ring, all was asked for
all_asked : (order : Order) (n : ℕ) (xs : List ℕ) → min (length xs) 4294967295 ≤ n → n ≤ size order → min (length xs) 4294967295 ≡ length xs
all_asked order n xs few fits = let within = size_within order in omega (arith, few, fits, within.1)

abbrev SendEnds : Standing → List ℕ → Answer → Type 0
SendEnds e xs answer = AnswersSend answer × (send_told (most_asked xs) (told_send answer) ≡ answer) × (told_send answer ≡ HasSent → most_asked xs ≡ length xs)

send_none : HasSent ≡ SendClosed → ⊥
send_none is = cc

send_no : (p c : ℕ) → HasNoRoom p c ≡ HasSent → ⊥
send_no p c is = cc

send_ends : (e : Standing) (xs : List ℕ) (events : List PastEvent) (answer : Answer) → SendCause e (most_asked xs) (loads_of e events) answer → SendEnds e xs answer
send_ends e xs events answer (send_closed shut is) = subst (SendEnds e xs) (sym is) (tt, refl, λ sent. absurd (send_none (sym sent)))
send_ends e xs events answer (send_no_room last at found few is) = subst (SendEnds e xs) (sym is) (tt, refl, λ sent. absurd (send_no last.prod last.cons sent))
send_ends e xs events answer (sent_all last at found enough is) =
    subst (SendEnds e xs) (sym is) (tt, refl, λ sent. all_asked (write_order e) (room_at e last) xs enough (room_within last.prod last.cons (write_order e)))

pub send_answers : (e : Standing) (xs : List ℕ) (events : List PastEvent) (answer : Answer) → Trace e (Send (most_asked xs)) events answer → SendEnds e xs answer
send_answers e xs events answer trace = send_ends e xs events answer (has_cause e (Send (most_asked xs)) events answer trace)

abbrev RecvEnds : Standing → List ℕ → Answer → Type 0
RecvEnds e xs answer = AnswersRecv answer × (recv_told (most_asked xs) (told_recv answer) ≡ answer) × (told_recv answer ≡ HasGot → most_asked xs ≡ length xs)

recv_none : HasGot ≡ RecvClosed → ⊥
recv_none is = cc

recv_no : (p c : ℕ) → IsShort p c ≡ HasGot → ⊥
recv_no p c is = cc

recv_ends : (e : Standing) (xs : List ℕ) (events : List PastEvent) (answer : Answer) → RecvCause e (most_asked xs) (loads_of e events) answer → RecvEnds e xs answer
recv_ends e xs events answer (recv_closed last at few shut is) = subst (RecvEnds e xs) (sym is) (tt, refl, λ got. absurd (recv_none (sym got)))
recv_ends e xs events answer (recv_short last at few found is) = subst (RecvEnds e xs) (sym is) (tt, refl, λ got. absurd (recv_no last.prod last.cons got))
recv_ends e xs events answer (recv_got last at enough is) =
    subst (RecvEnds e xs) (sym is) (tt, refl, λ got. all_asked (read_order e) (waiting_at e last) xs enough (ready_within last.prod last.cons (read_order e)))

pub recv_answers : (e : Standing) (xs : List ℕ) (events : List PastEvent) (answer : Answer) → Trace e (Recv (most_asked xs)) events answer → RecvEnds e xs answer
recv_answers e xs events answer trace = recv_ends e xs events answer (has_cause e (Recv (most_asked xs)) events answer trace)

told_back : (n : ℕ) (a : SendAnswer) → told_send (send_told n a) ≡ a
told_back n HasSent = refl
told_back n (HasNoRoom p c) = refl
told_back n SendClosed = refl

got_back : (n : ℕ) (a : RecvAnswer) → told_recv (recv_told n a) ≡ a
got_back n HasGot = refl
got_back n (IsShort p c) = refl
got_back n RecvClosed = refl

-- each answer comes if and only if its cause is there
pub send_cause : (e : Standing) (n : ℕ) (events : List PastEvent) (result : SendAnswer) → Trace e (Send n) events (send_told n result) → (other : SendAnswer) → (result ≡ other) ↔ SendCause e n (loads_of e events) (send_told n other)
send_cause e n events result trace other =
    let each = each_cause e (Send n) events (send_told n result) trace (send_told n other) in
    (λ is. each.0 (ap (send_told n) is), λ cause. sym (told_back n result) ∙ ap told_send (each.1 cause) ∙ told_back n other)

pub recv_cause : (e : Standing) (n : ℕ) (events : List PastEvent) (result : RecvAnswer) → Trace e (Recv n) events (recv_told n result) → (other : RecvAnswer) → (result ≡ other) ↔ RecvCause e n (loads_of e events) (recv_told n other)
recv_cause e n events result trace other =
    let each = each_cause e (Recv n) events (recv_told n result) trace (recv_told n other) in
    (λ is. each.0 (ap (recv_told n) is), λ cause. sym (got_back n result) ∙ ap told_recv (each.1 cause) ∙ got_back n other)

-- ---- the views

take_whole : (n : ℕ) (xs : List ℕ) → n ≡ length xs → take n (take n xs) ≡ xs
take_whole n xs is = take-take n n xs (omega arith) ∙ take_all n xs (omega (arith, is))

pub send_view : (e : EndView) (n : ℕ) (xs buffer : List ℕ) (saw : Bool) (result : SendAnswer) → (result ≡ HasSent → n ≡ length xs) → saw ≡ (e.saw || tells_end (send_told n result)) →
    answered_view e (Send n) (take n xs) buffer (send_told n result) saw ≡ sent_to e result xs
send_view e n xs buffer saw HasSent all sees =
    quiet_view e (Send n) (take n xs) buffer (Sent n) saw e.saw (e.sent ++ xs) e.got (record { state = refl; stays = refl; ends = refl; drained = refl; misled = refl })
    (ap (λ (zs : List ℕ). e.sent ++ zs) (take_whole n xs (all refl))) (append-nil e.got) (sees ∙ or-false e.saw)
send_view e n xs buffer saw (HasNoRoom p c) all sees =
    quiet_view e (Send n) (take n xs) buffer (NoRoom p c) saw e.saw e.sent e.got (record { state = refl; stays = refl; ends = refl; drained = refl; misled = refl })
    (append-nil e.sent) (append-nil e.got) (sees ∙ or-false e.saw)
send_view e n xs buffer saw SendClosed all sees =
    quiet_view e (Send n) (take n xs) buffer PeerClosed saw true e.sent e.got (record { state = refl; stays = refl; ends = refl; drained = refl; misled = refl })
    (append-nil e.sent) (append-nil e.got) (sees ∙ or-true e.saw)

pub recv_view : (e : EndView) (n : ℕ) (payload buffer : List ℕ) (saw : Bool) (result : RecvAnswer) → (result ≡ HasGot → n ≡ length buffer) → saw ≡ (e.saw || tells_end (recv_told n result)) →
    answered_view e (Recv n) payload buffer (recv_told n result) saw ≡ received_from e result buffer
recv_view e n payload buffer saw HasGot all sees =
    quiet_view e (Recv n) payload buffer (Got n) saw e.saw e.sent (e.got ++ buffer) (record { state = refl; stays = refl; ends = refl; drained = refl; misled = refl })
    (append-nil e.sent) (ap (λ (zs : List ℕ). e.got ++ zs) (take_all n buffer (let whole = all refl in omega (arith, whole)))) (sees ∙ or-false e.saw)
recv_view e n payload buffer saw (IsShort p c) all sees =
    quiet_view e (Recv n) payload buffer (Short p c) saw e.saw e.sent e.got (record { state = refl; stays = refl; ends = refl; drained = refl; misled = refl })
    (append-nil e.sent) (append-nil e.got) (sees ∙ or-false e.saw)
recv_view e n payload buffer saw RecvClosed all sees =
    quiet_view e (Recv n) payload buffer PeerClosed saw true e.sent e.got (record { state = refl; stays = refl; ends = refl; drained = refl; misled = refl })
    (append-nil e.sent) (append-nil e.got) (sees ∙ or-true e.saw)

pub sent_got : (e : EndView) (answer : SendAnswer) (payload : List ℕ) → (sent_to e answer payload).got ≡ e.got
sent_got e HasSent payload = refl
sent_got e (HasNoRoom prod cons) payload = refl
sent_got e SendClosed payload = refl
