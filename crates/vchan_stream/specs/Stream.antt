-- What a write and a read of a stream make of the view of their end, and why they answer as they do.
-- Source: libxenvchan's io.c, non-blocking mode, for libxenvchan_write and libxenvchan_read; that an answer names its two indices is this project's own.
use Rattle.std.specs.Prelude.{ℕ, ◌++◌, List, take, true}
use Rattle.vchan_protocol.specs.declared.call.Answer.{Answer}
use Rattle.vchan_protocol.specs.declared.call.Answer.TheVariants.{Wrote, Full, Got, Empty, PeerClosed}
use Rattle.end_view.specs.EndView.{EndView}
use Rattle.vchan_stream.specs.declared.WriteAnswer.{WriteAnswer}
use Rattle.vchan_stream.specs.declared.WriteAnswer.TheVariants.{Wrote as HasWritten, Full as IsFull, PeerClosed as WriteClosed}
use Rattle.vchan_stream.specs.declared.ReadAnswer.{ReadAnswer}
use Rattle.vchan_stream.specs.declared.ReadAnswer.TheVariants.{Got as HasGot, Empty as IsEmpty, PeerClosed as ReadClosed}

-- the answers that a write gives, and those of a read
abbrev pub AnswersWrite : Answer → Type 0
AnswersWrite (Wrote count) = Unit {0}
AnswersWrite (Full prod cons) = Unit {0}
AnswersWrite PeerClosed = Unit {0}
AnswersWrite _ = ⊥

abbrev pub AnswersRead : Answer → Type 0
AnswersRead (Got count) = Unit {0}
AnswersRead (Empty prod cons) = Unit {0}
AnswersRead PeerClosed = Unit {0}
AnswersRead _ = ⊥

-- the answer of the protocol that a write's and a read's answer tell
abbrev pub write_told : WriteAnswer → Answer
write_told (HasWritten count) = Wrote count
write_told (IsFull prod cons) = Full prod cons
write_told WriteClosed = PeerClosed

abbrev pub read_told : ReadAnswer → Answer
read_told (HasGot count) = Got count
read_told (IsEmpty prod cons) = Empty prod cons
read_told ReadClosed = PeerClosed

-- the view of an end after a write of these bytes: as many of them are sent as the answer tells
abbrev pub wrote_to : EndView → WriteAnswer → List ℕ → EndView
wrote_to e (HasWritten count) payload = record e { sent = e.sent ++ take count payload }
wrote_to e (IsFull prod cons) payload = e
wrote_to e WriteClosed payload = record e { saw = true }

-- the view of an end after a read into this buffer: as many of its bytes were got as the answer tells
abbrev pub read_from : EndView → ReadAnswer → List ℕ → EndView
read_from e (HasGot count) buffer = record e { got = e.got ++ take count buffer }
read_from e (IsEmpty prod cons) buffer = e
read_from e ReadClosed buffer = record e { saw = true }
