-- Calls that wait, as lists of rounds: each is a whole call that doesn't wait, and between two of them the end takes one event.
-- Each round and each try is the one call that the end made meanwhile. So the calls that the end has made tell how it stood between them.
-- Source: libxenvchan's io.c for the blocking mode of libxenvchan_write, read, send and recv; that a call is a list of rounds, and that only a whole round moves bytes, is this project's own.
use Rattle.std.specs.Prelude.{◌≡◌, ℕ, ◌+◌, ◌<◌, Bool, true, false, List, ◌++◌, length, take, drop}
use Rattle.vchan_protocol.specs.declared.call.Answer.{Answer}
use Rattle.vchan_protocol.specs.declared.call.Answer.TheVariants.{Event}
use Rattle.vchan_protocol.specs.declared.call.Call.{Call}
use Rattle.vchan_protocol.specs.declared.call.Call.TheVariants.{TakeEvent, Write, Read, Send, Recv}
use Rattle.vchan_protocol.specs.Table.Ends.{Standing, write_size, read_size}
use Rattle.vchan_protocol.specs.Table.Calls.{Trace}
use Rattle.vchan_protocol.specs.History.Core.{standing_of}
use Rattle.vchan_protocol.specs.OneEnd.OneCall.{MadeOneCall}
use Rattle.end_view.specs.EndView.{EndView}
use Rattle.vchan_rule.specs.Seated.{SeatedEnd, view}
use Rattle.vchan_rule.specs.Called.{most_asked}
use Rattle.vchan_stream.specs.Stream as stream
use Rattle.vchan_stream.specs.declared.WriteAnswer.{WriteAnswer}
use Rattle.vchan_stream.specs.declared.WriteAnswer.TheVariants as write
use Rattle.vchan_stream.specs.declared.ReadAnswer.{ReadAnswer}
use Rattle.vchan_stream.specs.declared.ReadAnswer.TheVariants as read
use Rattle.vchan_packet.specs.Packet as packet
use Rattle.vchan_packet.specs.declared.SendAnswer.{SendAnswer}
use Rattle.vchan_packet.specs.declared.SendAnswer.TheVariants as send
use Rattle.vchan_packet.specs.declared.RecvAnswer.{RecvAnswer}
use Rattle.vchan_packet.specs.declared.RecvAnswer.TheVariants as recv
use Rattle.vchan_block.specs.declared.writing.BlockWrite.{BlockWrite}
use Rattle.vchan_block.specs.declared.writing.BlockWrite.TheVariants as wrote
use Rattle.vchan_block.specs.declared.reading.BlockRead.{BlockRead}
use Rattle.vchan_block.specs.declared.reading.BlockRead.TheVariants as got
use Rattle.vchan_block.specs.declared.sending.BlockSend.{BlockSend}
use Rattle.vchan_block.specs.declared.sending.BlockSend.TheVariants as sent
use Rattle.vchan_block.specs.declared.receiving.BlockRecv.{BlockRecv}
use Rattle.vchan_block.specs.declared.receiving.BlockRecv.TheVariants as received

-- the events that an end made last are the whole of this call, with this answer
abbrev pub EndsIn : SeatedEnd → Call → Answer → Type 0
EndsIn e call answer = (begun : Standing) × Trace begun call e.side.trail answer

-- ---- waiting

-- one try to take an event: whether it took one
pub record IsTry (was : Bool) (old new : SeatedEnd) : Type 0 where
  pub view_is : view new ≡ view old
  pub once : MadeOneCall old.side TakeEvent new.side (Event was)
  pub trail : Trace (standing_of old.side) TakeEvent new.side.trail (Event was)

-- tries until an event was taken
pub data Waits : SeatedEnd → SeatedEnd → Type 0 where
  Takes : {old new : SeatedEnd} → IsTry true old new → Waits old new
  TriesAgain : {old new : SeatedEnd} (tried : SeatedEnd) → IsTry false old tried → Waits tried new → Waits old new

-- ---- a write

-- one round on these bytes
pub record IsWriteRound (bytes : List ℕ) (answer : WriteAnswer) (old new : SeatedEnd) : Type 0 where
  pub view_is : view new ≡ stream.wrote_to (view old) answer bytes
  pub once : MadeOneCall old.side (Write (most_asked bytes)) new.side (stream.write_told answer)
  pub trail : Trace (standing_of old.side) (Write (most_asked bytes)) new.side.trail (stream.write_told answer)

-- after this many bytes: a round moved `count` more, and all are moved; a round found the peer closed; or it waits and goes on
pub data Writes (bytes : List ℕ) : ℕ → SeatedEnd → SeatedEnd → BlockWrite → Type 0 where
  MovesLast : {moved : ℕ} {old new : SeatedEnd} (count : ℕ) → IsWriteRound (drop moved bytes) (write.Wrote count) old new → moved + count ≡ length bytes → Writes bytes moved old new (wrote.Wrote moved count)
  FindsClosed : {moved : ℕ} {old new : SeatedEnd} → IsWriteRound (drop moved bytes) write.PeerClosed old new → Writes bytes moved old new (wrote.PeerClosed moved)
  MovesSome : {moved : ℕ} {old new : SeatedEnd} {answer : BlockWrite} (count : ℕ) (tried waited : SeatedEnd) → IsWriteRound (drop moved bytes) (write.Wrote count) old tried → moved + count < length bytes → Waits tried waited → Writes bytes (moved + count) waited new answer → Writes bytes moved old new answer
  FindsFull : {moved : ℕ} {old new : SeatedEnd} {answer : BlockWrite} (prod cons : ℕ) (tried waited : SeatedEnd) → IsWriteRound (drop moved bytes) (write.Full prod cons) old tried → Waits tried waited → Writes bytes moved waited new answer → Writes bytes moved old new answer

-- the view after it: exactly the bytes that the answer names are sent
abbrev pub wrote_to : EndView → BlockWrite → List ℕ → EndView
wrote_to e (wrote.Wrote before last) bytes = record e { sent = e.sent ++ take (before + last) bytes }
wrote_to e (wrote.PeerClosed before) bytes = record e { sent = e.sent ++ take before bytes; saw = true }

-- its last round was a write of the bytes that were left then
abbrev pub EndsInWrite : SeatedEnd → BlockWrite → List ℕ → Type 0
EndsInWrite e (wrote.Wrote before last) bytes = EndsIn e (Write (most_asked (drop before bytes))) (stream.write_told (write.Wrote last))
EndsInWrite e (wrote.PeerClosed before) bytes = EndsIn e (Write (most_asked (drop before bytes))) (stream.write_told write.PeerClosed)

-- ---- a read

-- one round that asks for at most this many bytes, and leaves these in the buffer
pub record IsReadRound (most : ℕ) (answer : ReadAnswer) (buffer : List ℕ) (old new : SeatedEnd) : Type 0 where
  pub view_is : view new ≡ stream.read_from (view old) answer buffer
  pub once : MadeOneCall old.side (Read most) new.side (stream.read_told answer)
  pub trail : Trace (standing_of old.side) (Read most) new.side.trail (stream.read_told answer)

-- the answer of the last round
abbrev pub last_read : BlockRead → ReadAnswer
last_read (got.Got count) = read.Got count
last_read got.PeerClosed = read.PeerClosed

-- rounds that found nothing, and the last one
pub data Reads (most : ℕ) (buffer : List ℕ) : SeatedEnd → SeatedEnd → BlockRead → Type 0 where
  Ends : {old new : SeatedEnd} {answer : BlockRead} → IsReadRound most (last_read answer) buffer old new → Reads most buffer old new answer
  FindsNone : {old new : SeatedEnd} {answer : BlockRead} (prod cons : ℕ) (held : List ℕ) (tried waited : SeatedEnd) → IsReadRound most (read.Empty prod cons) held old tried → Waits tried waited → Reads most buffer waited new answer → Reads most buffer old new answer

-- ---- a send

-- one round on this packet
pub record IsSendRound (bytes : List ℕ) (answer : SendAnswer) (old new : SeatedEnd) : Type 0 where
  pub view_is : view new ≡ packet.sent_to (view old) answer bytes
  pub once : MadeOneCall old.side (Send (most_asked bytes)) new.side (packet.send_told (most_asked bytes) answer)
  pub trail : Trace (standing_of old.side) (Send (most_asked bytes)) new.side.trail (packet.send_told (most_asked bytes) answer)

-- rounds that found no room, and the last one, which gave this answer
pub data Sends (bytes : List ℕ) (answer : SendAnswer) : SeatedEnd → SeatedEnd → Type 0 where
  SendEnds : {old new : SeatedEnd} → IsSendRound bytes answer old new → Sends bytes answer old new
  FindsNoRoom : {old new : SeatedEnd} (prod cons : ℕ) (tried waited : SeatedEnd) → IsSendRound bytes (send.NoRoom prod cons) old tried → Waits tried waited → Sends bytes answer waited new → Sends bytes answer old new

-- rounds, or no event at all for a packet that is too large for the ring
abbrev pub HasSent : List ℕ → SeatedEnd → SeatedEnd → BlockSend → Type 0
HasSent bytes old new sent.Sent = Sends bytes send.Sent old new
HasSent bytes old new sent.PeerClosed = Sends bytes send.PeerClosed old new
HasSent bytes old new (sent.TooLarge len size) = new ≡ old

-- the view after it: all of its bytes are sent, or none
abbrev pub sent_to : EndView → BlockSend → List ℕ → EndView
sent_to e sent.Sent bytes = record e { sent = e.sent ++ bytes }
sent_to e sent.PeerClosed bytes = record e { saw = true }
sent_to e (sent.TooLarge len size) bytes = e

-- its last round, if it made one
abbrev pub EndsInSend : SeatedEnd → BlockSend → List ℕ → Type 0
EndsInSend e sent.Sent bytes = EndsIn e (Send (most_asked bytes)) (packet.send_told (most_asked bytes) send.Sent)
EndsInSend e sent.PeerClosed bytes = EndsIn e (Send (most_asked bytes)) (packet.send_told (most_asked bytes) send.PeerClosed)
EndsInSend e (sent.TooLarge len size) bytes = Unit {0}

-- the packet is larger than the ring that the end writes, by these two numbers
abbrev pub IsTooLargeToSend : SeatedEnd → List ℕ → ℕ → ℕ → Type 0
IsTooLargeToSend e bytes len size = (len ≡ length bytes) × (size ≡ write_size (standing_of e.side)) × (size < len)

-- ---- a recv

-- one round that asks for this many bytes, and leaves these in the buffer
pub record IsRecvRound (most : ℕ) (answer : RecvAnswer) (buffer : List ℕ) (old new : SeatedEnd) : Type 0 where
  pub view_is : view new ≡ packet.received_from (view old) answer buffer
  pub once : MadeOneCall old.side (Recv most) new.side (packet.recv_told most answer)
  pub trail : Trace (standing_of old.side) (Recv most) new.side.trail (packet.recv_told most answer)

-- rounds that found too few bytes, and the last one, which gave this answer
pub data Receives (most : ℕ) (answer : RecvAnswer) (buffer : List ℕ) : SeatedEnd → SeatedEnd → Type 0 where
  RecvEnds : {old new : SeatedEnd} → IsRecvRound most answer buffer old new → Receives most answer buffer old new
  FindsFew : {old new : SeatedEnd} (prod cons : ℕ) (held : List ℕ) (tried waited : SeatedEnd) → IsRecvRound most (recv.Short prod cons) held old tried → Waits tried waited → Receives most answer buffer waited new → Receives most answer buffer old new

-- rounds, or no event at all if the buffer is larger than the ring: it stays as it was then
abbrev pub HasReceived : List ℕ → List ℕ → SeatedEnd → SeatedEnd → BlockRecv → Type 0
HasReceived was buffer old new received.Got = Receives (most_asked was) recv.Got buffer old new
HasReceived was buffer old new received.PeerClosed = Receives (most_asked was) recv.PeerClosed buffer old new
HasReceived was buffer old new (received.TooLarge len size) = (new ≡ old) × (buffer ≡ was)

-- the view after it: the whole buffer was got, or nothing
abbrev pub received_from : EndView → BlockRecv → List ℕ → EndView
received_from e received.Got buffer = record e { got = e.got ++ buffer }
received_from e received.PeerClosed buffer = record e { saw = true }
received_from e (received.TooLarge len size) buffer = e

-- its last round, if it made one
abbrev pub EndsInRecv : SeatedEnd → BlockRecv → List ℕ → Type 0
EndsInRecv e received.Got buffer = EndsIn e (Recv (most_asked buffer)) (packet.recv_told (most_asked buffer) recv.Got)
EndsInRecv e received.PeerClosed buffer = EndsIn e (Recv (most_asked buffer)) (packet.recv_told (most_asked buffer) recv.PeerClosed)
EndsInRecv e (received.TooLarge len size) buffer = Unit {0}

-- the buffer is larger than the ring that the end reads, by these two numbers
abbrev pub IsTooLargeToReceive : SeatedEnd → List ℕ → ℕ → ℕ → Type 0
IsTooLargeToReceive e buffer len size = (len ≡ length buffer) × (size ≡ read_size (standing_of e.side)) × (size < len)
