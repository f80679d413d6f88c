-- What an answer tells of its call: what the call moved, and why it ended so.
-- The statements are this project's own.
use Rattle.std.specs.Prelude.{◌≡◌, ℕ, ◌+◌, ◌%◌, ◌^◌, ◌↔◌, suc, zero, Some, List, [], ◌∷◌, ◌++◌, length}
use Rattle.ring_words.specs.declared.page.WordName.{WordName}
use Rattle.ring_words.specs.declared.page.WordName.TheVariants.{LeftCons, LeftProd, RightCons, RightProd, RingByte}
use Rattle.vchan_protocol.specs.declared.op.Op.{Op}
use Rattle.vchan_protocol.specs.declared.op.Op.TheVariants.{Store, Or, And, Swap}
use Rattle.vchan_protocol.specs.declared.op.PastEvent.{PastEvent}
use Rattle.vchan_protocol.specs.declared.call.Answer.{Answer}
use Rattle.vchan_protocol.specs.declared.call.Answer.TheVariants.{Wrote, Sent, Got}
use Rattle.vchan_protocol.specs.declared.call.Call.{Call}
use Rattle.vchan_protocol.specs.declared.side.Side.{Side}
use Rattle.vchan_protocol.specs.declared.side.Begun.{Begun}
use Rattle.vchan_protocol.specs.Table.Plan.{GoesOn, after, answers}
use Rattle.vchan_protocol.specs.Table.Ends.{Standing, written_ring, read_ring, prod_word, cons_word}
use Rattle.vchan_protocol.specs.Table.Calls.{Trace}
use Rattle.vchan_protocol.specs.History.Core.{begun_standing, count_stored, bytes_loaded, plan_left, op_next, made}
use Rattle.vchan_protocol.specs.Honest.RingLaw.{CallLawful}
use Rattle.vchan_protocol.specs.Answering.Loads.{loads_of}
use Rattle.vchan_protocol.specs.Answering.Causes.{Cause}

-- ---- what a call moves

-- What the events of a call do to the two rings: how many bytes they store and how many they load, and which events write to a ring besides those
-- that store a byte of the payload.
pub record Transfer : Type 0 where
  pub stored : ℕ
  pub loaded : ℕ
  pub others : List Op

-- an event writes to an index, or to a ring byte
abbrev pub written_to : WordName → Op → List Op
written_to LeftProd op = op ∷ []
written_to RightProd op = op ∷ []
written_to LeftCons op = op ∷ []
written_to RightCons op = op ∷ []
written_to (RingByte ring at) op = op ∷ []
written_to _ op = []

-- the event, if it writes to a ring in another way than by a byte of the payload
abbrev pub ring_write : Op → List Op
ring_write (Store word value) = written_to word (Store word value)
ring_write (Or word bits) = written_to word (Or word bits)
ring_write (And word bits) = written_to word (And word bits)
ring_write (Swap word value) = written_to word (Swap word value)
ring_write _ = []

-- all such events of a trail
abbrev pub ring_writes : List PastEvent → List Op
ring_writes [] = []
ring_writes (event ∷ events) = ring_write event.op ++ ring_writes events

-- what a trail has moved
abbrev pub transfer_of : List PastEvent → Transfer
transfer_of trail = record { stored = count_stored trail; loaded = length (bytes_loaded trail); others = ring_writes trail }

-- this many bytes are stored, and the own producer index once: the own count moved on by that number
abbrev pub sends_bytes : Standing → ℕ → Transfer
sends_bytes e count = record { stored = count; loaded = 0; others = Store (prod_word (written_ring e.role)) ((e.prod + count) % 2 ^ 32) ∷ [] }

-- this many bytes are loaded, and the own consumer index is stored once: the own count moved on by that number
abbrev pub gets_bytes : Standing → ℕ → Transfer
gets_bytes e count = record { stored = 0; loaded = count; others = Store (cons_word (read_ring e.role)) ((e.cons + count) % 2 ^ 32) ∷ [] }

-- nothing is moved
abbrev pub no_transfer : Transfer
no_transfer = record { stored = 0; loaded = 0; others = [] }

-- what a call that began in this standing has moved if it gives this answer
abbrev pub transfer_told : Standing → Answer → Transfer
transfer_told e (Wrote zero) = no_transfer
transfer_told e (Wrote (suc count)) = sends_bytes e (suc count)
transfer_told e (Sent count) = sends_bytes e count
transfer_told e (Got count) = gets_bytes e count
transfer_told e _ = no_transfer

-- ---- the laws

-- each call has moved what its answer tells, and nothing else
abbrev pub EachAnswerTellsItsTransfer : Type 0
EachAnswerTellsItsTransfer = (e : Standing) (call : Call) (events : List PastEvent) (answer : Answer) → Trace e call events answer → transfer_of events ≡ transfer_told e answer

-- each answer comes if and only if its cause is in what the call loaded
abbrev pub EachAnswerHasItsCause : Type 0
EachAnswerHasItsCause =
    (e : Standing) (call : Call) (events : List PastEvent) (answer : Answer) → Trace e call events answer →
    (other : Answer) → (answer ≡ other) ↔ Cause e call (loads_of e events) other

-- when an end has its answer, its trail is the whole call
abbrev pub EachAnswerHasItsTrace : Type 0
EachAnswerHasItsTrace =
    (s : Side) (b : Begun) (taken : ℕ) (answer : Answer) → CallLawful s → s.call ≡ Some b → GoesOn (plan_left s) → after (plan_left s) taken ≡ answers answer →
    Trace (begun_standing s b) b.call (made s (op_next s) taken).trail answer
