-- The answers of a write and of a read.
use Rattle.std.proofs.Common.{◌≡◌, ◌↔◌, ℕ, List, refl, sym, ap, subst}
use Rattle.vchan_protocol.specs.declared.call.Answer.{Answer}
use Rattle.vchan_protocol.specs.declared.call.Answer.TheVariants.{Wrote, Full, Got, Empty, PeerClosed}
use Rattle.vchan_protocol.specs.declared.call.Call.TheVariants.{Write, Read}
use Rattle.vchan_protocol.specs.declared.op.PastEvent.{PastEvent}
use Rattle.vchan_protocol.specs.Table.Ends.{Standing}
use Rattle.vchan_protocol.specs.Table.Calls.{Trace}
use Rattle.vchan_protocol.specs.Answering.Causes.{WriteCause, write_closed, wrote_none, write_full, wrote_some, ReadCause, read_got, read_closed, read_empty}
use Rattle.vchan_protocol.specs.Answering.Loads.{loads_of}
use Rattle.vchan_protocol.proofs.Answering.AnswerLaws.{has_cause, each_cause}
use Rattle.vchan_stream.specs.declared.WriteAnswer.{WriteAnswer}
use Rattle.vchan_stream.specs.declared.WriteAnswer.TheVariants.{Wrote as HasWritten, Full as IsFull, PeerClosed as WriteClosed}
use Rattle.vchan_stream.specs.declared.ReadAnswer.{ReadAnswer}
use Rattle.vchan_stream.specs.declared.ReadAnswer.TheVariants.{Got as HasGot, Empty as IsEmpty, PeerClosed as ReadClosed}
use Rattle.vchan_stream.specs.Stream.{AnswersWrite, AnswersRead, write_told, read_told}

-- ---- the answers

answers_write : (e : Standing) (n : ℕ) (events : List PastEvent) (answer : Answer) → WriteCause e n (loads_of e events) answer → AnswersWrite answer
answers_write e n events answer (write_closed shut is) = subst AnswersWrite (sym is) tt
answers_write e n events answer (wrote_none found none is) = subst AnswersWrite (sym is) tt
answers_write e n events answer (write_full last at found some full is) = subst AnswersWrite (sym is) tt
answers_write e n events answer (wrote_some last at found some room is) = subst AnswersWrite (sym is) tt

pub write_answers : (e : Standing) (n : ℕ) (events : List PastEvent) (answer : Answer) → Trace e (Write n) events answer → AnswersWrite answer
write_answers e n events answer trace = answers_write e n events answer (has_cause e (Write n) events answer trace)

answers_read : (e : Standing) (n : ℕ) (events : List PastEvent) (answer : Answer) → ReadCause e n (loads_of e events) answer → AnswersRead answer
answers_read e n events answer (read_got last at some is) = subst AnswersRead (sym is) tt
answers_read e n events answer (read_closed last at none shut is) = subst AnswersRead (sym is) tt
answers_read e n events answer (read_empty last at none found is) = subst AnswersRead (sym is) tt

pub read_answers : (e : Standing) (n : ℕ) (events : List PastEvent) (answer : Answer) → Trace e (Read n) events answer → AnswersRead answer
read_answers e n events answer trace = answers_read e n events answer (has_cause e (Read n) events answer trace)

-- two answers tell the same only if they are the same
same_write : (a b : WriteAnswer) → write_told a ≡ write_told b → a ≡ b
same_write (HasWritten k) (HasWritten l) is = cc
same_write (HasWritten k) (IsFull p c) is = cc
same_write (HasWritten k) WriteClosed is = cc
same_write (IsFull p c) (HasWritten l) is = cc
same_write (IsFull p c) (IsFull q d) is = cc
same_write (IsFull p c) WriteClosed is = cc
same_write WriteClosed (HasWritten l) is = cc
same_write WriteClosed (IsFull q d) is = cc
same_write WriteClosed WriteClosed is = refl

same_read : (a b : ReadAnswer) → read_told a ≡ read_told b → a ≡ b
same_read (HasGot k) (HasGot l) is = cc
same_read (HasGot k) (IsEmpty p c) is = cc
same_read (HasGot k) ReadClosed is = cc
same_read (IsEmpty p c) (HasGot l) is = cc
same_read (IsEmpty p c) (IsEmpty q d) is = cc
same_read (IsEmpty p c) ReadClosed is = cc
same_read ReadClosed (HasGot l) is = cc
same_read ReadClosed (IsEmpty q d) is = cc
same_read ReadClosed ReadClosed is = refl

-- each answer comes if and only if its cause is there
pub write_cause : (e : Standing) (n : ℕ) (events : List PastEvent) (result : WriteAnswer) → Trace e (Write n) events (write_told result) → (other : WriteAnswer) → (result ≡ other) ↔ WriteCause e n (loads_of e events) (write_told other)
write_cause e n events result trace other =
    let each = each_cause e (Write n) events (write_told result) trace (write_told other) in
    (λ is. each.0 (ap write_told is), λ cause. same_write result other (each.1 cause))

pub read_cause : (e : Standing) (n : ℕ) (events : List PastEvent) (result : ReadAnswer) → Trace e (Read n) events (read_told result) → (other : ReadAnswer) → (result ≡ other) ↔ ReadCause e n (loads_of e events) (read_told other)
read_cause e n events result trace other =
    let each = each_cause e (Read n) events (read_told result) trace (read_told other) in
    (λ is. each.0 (ap read_told is), λ cause. same_read result other (each.1 cause))
