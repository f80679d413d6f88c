-- What a send and a recv of a packet make of the view of their end: all of its bytes, or none.
-- Source: libxenvchan's io.c, non-blocking mode, for libxenvchan_send and libxenvchan_recv; that an answer names its two indices is this project's own.
use Rattle.std.specs.Prelude.{◌≡◌, ◌≢◌, ℕ, ◌++◌, List, true}
use Rattle.vchan_protocol.specs.declared.call.Call.TheVariants.{Send}
use Rattle.vchan_protocol.specs.declared.call.Answer.{Answer}
use Rattle.vchan_protocol.specs.declared.call.Answer.TheVariants.{Sent, NoRoom, Got, Short, PeerClosed}
use Rattle.vchan_protocol.specs.Table.Calls.{Trace}
use Rattle.vchan_protocol.specs.Answering.Causes.{SendCause}
use Rattle.vchan_protocol.specs.Answering.Loads.{loads_of}
use Rattle.vchan_protocol.specs.History.Core.{standing_of}
use Rattle.end_view.specs.EndView.{EndView}
use Rattle.vchan_rule.specs.Seated.{SeatedEnd, view}
use Rattle.vchan_rule.specs.Called.{most_asked}
use Rattle.vchan_packet.specs.declared.SendAnswer.{SendAnswer}
use Rattle.vchan_packet.specs.declared.SendAnswer.TheVariants.{Sent as HasSent, NoRoom as HasNoRoom, PeerClosed as SendClosed}
use Rattle.vchan_packet.specs.declared.RecvAnswer.{RecvAnswer}
use Rattle.vchan_packet.specs.declared.RecvAnswer.TheVariants.{Got as HasGot, Short as IsShort, PeerClosed as RecvClosed}

-- the answers that a send gives, and those of a recv
abbrev pub AnswersSend : Answer → Type 0
AnswersSend (Sent count) = Unit {0}
AnswersSend (NoRoom prod cons) = Unit {0}
AnswersSend PeerClosed = Unit {0}
AnswersSend _ = ⊥

abbrev pub AnswersRecv : Answer → Type 0
AnswersRecv (Got count) = Unit {0}
AnswersRecv (Short prod cons) = Unit {0}
AnswersRecv PeerClosed = Unit {0}
AnswersRecv _ = ⊥

-- the answer of the protocol that a send's and a recv's answer tell, if this many bytes were asked for
abbrev pub send_told : ℕ → SendAnswer → Answer
send_told n HasSent = Sent n
send_told n (HasNoRoom prod cons) = NoRoom prod cons
send_told n SendClosed = PeerClosed

abbrev pub recv_told : ℕ → RecvAnswer → Answer
recv_told n HasGot = Got n
recv_told n (IsShort prod cons) = Short prod cons
recv_told n RecvClosed = PeerClosed

-- what a send and a recv answer, by the answer of the protocol
abbrev pub told_send : Answer → SendAnswer
told_send (Sent count) = HasSent
told_send (NoRoom prod cons) = HasNoRoom prod cons
told_send _ = SendClosed

abbrev pub told_recv : Answer → RecvAnswer
told_recv (Got count) = HasGot
told_recv (Short prod cons) = IsShort prod cons
told_recv _ = RecvClosed

-- the view of an end after a send of these bytes: all of them are sent, or none
abbrev pub sent_to : EndView → SendAnswer → List ℕ → EndView
sent_to e HasSent payload = record e { sent = e.sent ++ payload }
sent_to e (HasNoRoom prod cons) payload = e
sent_to e SendClosed payload = record e { saw = true }

-- the view of an end after a recv into this buffer: it was filled, or nothing was got
abbrev pub received_from : EndView → RecvAnswer → List ℕ → EndView
received_from e HasGot buffer = record e { got = e.got ++ buffer }
received_from e (IsShort prod cons) buffer = e
received_from e RecvClosed buffer = record e { saw = true }

-- a send of these bytes sent none: by what it loaded there was no room for all of them, or the peer was shut
pub record FailsToSend (bytes : List ℕ) (old new : SeatedEnd) : Type 0 where
  pub answer : SendAnswer
  pub refused : answer ≢ HasSent
  pub view_is : view new ≡ sent_to (view old) answer bytes
  pub trail : Trace (standing_of old.side) (Send (most_asked bytes)) new.side.trail (send_told (most_asked bytes) answer)
  pub cause : SendCause (standing_of old.side) (most_asked bytes) (loads_of (standing_of old.side) new.side.trail) (send_told (most_asked bytes) answer)
