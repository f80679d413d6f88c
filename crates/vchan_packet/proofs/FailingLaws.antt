-- What a send that sent none leaves as it was.
use Rattle.std.proofs.Common.{◌≡◌, ◌≢◌, ◌↔◌, ℕ, List, refl, ap, ◌∙◌}
use Rattle.vchan_protocol.specs.declared.call.Call.TheVariants.{Send}
use Rattle.vchan_protocol.specs.Table.Calls.{Trace}
use Rattle.vchan_protocol.specs.Answering.Causes.{SendCause}
use Rattle.vchan_protocol.specs.Answering.Loads.{loads_of}
use Rattle.vchan_protocol.specs.History.Core.{standing_of}
use Rattle.end_view.specs.EndView.{EndView}
use Rattle.vchan_rule.specs.Seated.{SeatedEnd, view}
use Rattle.vchan_rule.specs.Called.{most_asked}
use Rattle.vchan_packet.specs.declared.SendAnswer.{SendAnswer}
use Rattle.vchan_packet.specs.declared.SendAnswer.TheVariants.{Sent, NoRoom, PeerClosed}
use Rattle.vchan_packet.specs.Packet.{send_told, sent_to, FailsToSend}

-- by the clauses of a send that didn't answer Sent
pub fails_to_send : (old new : SeatedEnd) (bytes : List ℕ) (answer : SendAnswer) → answer ≢ Sent → view new ≡ sent_to (view old) answer bytes
    → Trace (standing_of old.side) (Send (most_asked bytes)) new.side.trail (send_told (most_asked bytes) answer)
    → ((other : SendAnswer) → (answer ≡ other) ↔ SendCause (standing_of old.side) (most_asked bytes) (loads_of (standing_of old.side) new.side.trail) (send_told (most_asked bytes) other))
    → FailsToSend bytes old new
fails_to_send old new bytes answer refused is trail cause = record { answer = answer; refused = refused; view_is = is; trail = trail; cause = (cause answer).0 refl }

pub no_room_sends_none : (answer : SendAnswer) (prod cons : ℕ) → answer ≡ NoRoom prod cons → answer ≢ Sent
no_room_sends_none answer prod cons is sent = cc

pub shut_sends_none : (answer : SendAnswer) → answer ≡ PeerClosed → answer ≢ Sent
shut_sends_none answer is sent = cc

pub got_no_more : (bytes : List ℕ) (old new : SeatedEnd) → FailsToSend bytes old new → (view new).got ≡ (view old).got
got_no_more bytes old new fails = ap (λ (v : EndView). v.got) fails.view_is ∙ kept fails.answer
  where
    kept : (a : SendAnswer) → (sent_to (view old) a bytes).got ≡ (view old).got
    kept Sent = refl
    kept (NoRoom prod cons) = refl
    kept PeerClosed = refl

pub sent_no_more : (bytes : List ℕ) (old new : SeatedEnd) → FailsToSend bytes old new → (view new).sent ≡ (view old).sent
sent_no_more bytes old new fails = ap (λ (v : EndView). v.sent) fails.view_is ∙ kept fails.answer fails.refused
  where
    kept : (a : SendAnswer) → a ≢ Sent → (sent_to (view old) a bytes).sent ≡ (view old).sent
    kept Sent refused = absurd (refused refl)
    kept (NoRoom prod cons) refused = refl
    kept PeerClosed refused = refl
