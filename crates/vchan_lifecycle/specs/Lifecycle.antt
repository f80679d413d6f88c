-- What a connect, a close, a retire and a drain make of the view of their end, and which signals they store and ask for.
-- Source: libxenvchan's init.c for a connect and io.c for a close. The drain, the retire and the gone words are this project's own.
use Rattle.std.specs.Prelude.{ℕ, ◌<◌, Some, Result, Ok, Err, Bool, true, false, ◌==◌, ◌||◌, List, [], ◌∷◌, ◌++◌, take}
use Rattle.ring_words.specs.declared.page.Role.{Role}
use Rattle.vchan_protocol.specs.declared.op.Op.{Op}
use Rattle.vchan_protocol.specs.declared.op.Op.TheVariants.{Store, Or}
use Rattle.vchan_protocol.specs.declared.op.PastEvent.{PastEvent}
use Rattle.vchan_protocol.specs.declared.call.Call.TheVariants.{Drain}
use Rattle.vchan_protocol.specs.declared.call.Answer.{Answer}
use Rattle.vchan_protocol.specs.declared.call.Answer.TheVariants.{Got, NotYet, AllRead, PeerGone, Connected, BadOrders as Refuses}
use Rattle.vchan_protocol.specs.declared.call.EndState.{EndState}
use Rattle.vchan_protocol.specs.declared.call.EndState.TheVariants.{Open, Shut}
use Rattle.vchan_protocol.specs.declared.side.EndedBy.TheVariants.{AllRead as ByAllRead, PeerGone as ByPeerGone}
use Rattle.vchan_protocol.specs.Table.Ends.{Standing, own_live, own_gone, peer_pending, ready_at, low32}
use Rattle.vchan_protocol.specs.Table.Calls.{Trace}
use Rattle.vchan_protocol.specs.Answering.Causes.{DrainCause}
use Rattle.vchan_protocol.specs.Answering.Loads.{loads_of}
use Rattle.vchan_protocol.specs.History.Core.{first_ended, standing_of}
use Rattle.end_view.specs.EndView.{EndView}
use Rattle.vchan_rule.specs.Seated.{SeatedEnd}
use Rattle.vchan_lifecycle.specs.declared.BadOrders.{BadOrders}
use Rattle.vchan_lifecycle.specs.declared.DrainAnswer.{DrainAnswer}
use Rattle.vchan_lifecycle.specs.declared.DrainAnswer.TheVariants.{More, NotYet as IsNotYet, AllRead as IsAllRead, PeerGone as IsPeerGone}

-- ---- the answers

-- the answers of a drain, and those of a connect
abbrev pub AnswersDrain : Answer → Type 0
AnswersDrain (Got count) = Unit {0}
AnswersDrain (NotYet prod cons) = Unit {0}
AnswersDrain AllRead = Unit {0}
AnswersDrain (PeerGone prod cons) = Unit {0}
AnswersDrain _ = ⊥

abbrev pub AnswersConnect : Answer → Type 0
AnswersConnect Connected = Unit {0}
AnswersConnect (Refuses left right) = Unit {0}
AnswersConnect _ = ⊥

-- the answer of the protocol that a drain's answer tells
abbrev pub drain_told : DrainAnswer → Answer
drain_told (More count) = Got count
drain_told (IsNotYet prod cons) = NotYet prod cons
drain_told IsAllRead = AllRead
drain_told (IsPeerGone prod cons) = PeerGone prod cons

-- the answer of the protocol that a connect's result tells
abbrev pub connect_told : Result (Unit {0}) BadOrders → Answer
connect_told (Ok done) = Connected
connect_told (Err orders) = Refuses orders.left orders.right

-- ---- the views

-- The view of an end after a drain into this buffer. It may have seen its peer's end even if its answer doesn't tell of it: if it found the live byte 0, and
-- then bytes that were written before.
abbrev pub drained_to : EndView → DrainAnswer → List ℕ → Bool → EndView
drained_to e (More count) buffer saw = record e { got = e.got ++ take count buffer; saw = saw }
drained_to e (IsNotYet prod cons) buffer saw = record e { saw = saw }
drained_to e IsAllRead buffer saw = record e { saw = true; ended = first_ended e.ended (Some ByAllRead); drained = true }
drained_to e (IsPeerGone prod cons) buffer saw = record e { saw = true; ended = first_ended e.ended (Some ByPeerGone); drained = e.drained || (prod == cons) }

-- a client that connected is open; one that was refused stays fresh
abbrev pub connected_to : EndView → Bool → EndView
connected_to e true = record e { state = Open }
connected_to e false = record e { misled = true }

abbrev pub shut : EndView → EndView
shut e = record e { state = Shut }

abbrev pub retired_view : EndView → EndView
retired_view e = record e { state = Shut; retired = true }

-- ---- the events of a close and a retire

-- the events of a trail, without the values that they took
abbrev pub ops : List PastEvent → List Op
ops [] = []
ops (event ∷ events) = event.op ∷ ops events

-- a close clears the own live byte, and signals the peer
abbrev pub close_ops : Role → List Op
close_ops role = Store (own_live role) 0 ∷ Store (peer_pending role) 1 ∷ []

-- a retire closes an end that isn't shut, then sets its gone word and signals the peer
abbrev pub retire_ops : Role → EndState → List Op
retire_ops role Shut = Store (own_gone role) 1 ∷ Store (peer_pending role) 1 ∷ []
retire_ops role state = close_ops role ++ Store (own_gone role) 1 ∷ Store (peer_pending role) 1 ∷ []

-- ---- what a drain asks for

-- an end asks for a signal by an or: one of these events does
abbrev pub asks : Op → Bool
asks (Or word bits) = true
asks _ = false

abbrev pub has_asked : List Op → Bool
has_asked [] = false
has_asked (op ∷ later) = asks op || has_asked later

-- a drain's first event is a look at its peer's index, and by what it took no byte waits
abbrev pub found_none_first : Standing → List PastEvent → Bool
found_none_first e [] = false
found_none_first e (event ∷ later) = ready_at e (low32 event.taken) == 0

-- ---- a drain that moves nothing

-- it asked for at least one byte and found none, and the peer was there
pub record FindsNotYet (old new : SeatedEnd) : Type 0 where
  pub most : ℕ
  pub some : 0 < most
  pub prod : ℕ
  pub cons : ℕ
  pub trail : Trace (standing_of old.side) (Drain most) new.side.trail (NotYet prod cons)
  pub cause : DrainCause (standing_of old.side) most (loads_of (standing_of old.side) new.side.trail) (NotYet prod cons)
