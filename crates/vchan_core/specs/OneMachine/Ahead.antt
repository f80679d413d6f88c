-- What comes next in a call: the bytes of a put or a take, an event elsewhere, or the call's last notify.
use Rattle.std.specs.Prelude.{◌≡◌, ◌<◌, ◌==◌, ℕ, Option, Some, None, false}
use Rattle.ring_words.specs.declared.page.Role.{Role}
use Rattle.ring_words.specs.declared.page.WordName.{WordName}
use Rattle.vchan_core.specs.declared.machine.Machine.{Machine}
use Rattle.vchan_core.specs.declared.machine.ahead.Span.{Span}
use Rattle.vchan_core.specs.declared.machine.ahead.LastNotify.{LastNotify}
use Rattle.vchan_core.specs.declared.machine.ahead.Ahead.{Ahead}
use Rattle.vchan_core.specs.declared.machine.ahead.Ahead.TheVariants.{Puts, Takes, Elsewhere}
use Rattle.vchan_core.specs.declared.phase.Phase.{Phase}
use Rattle.vchan_core.specs.declared.phase.Phase.TheVariants.{Put, Take, WriteLive, SendLive}
use Rattle.vchan_protocol.specs.declared.op.Op.{Op}
use Rattle.vchan_protocol.specs.declared.op.Op.TheVariants.{Load, LoadByte, StoreByte, And}
use Rattle.vchan_protocol.specs.Table.Plan.{answers, next_op, after}
use Rattle.vchan_protocol.specs.Table.Ends.{written_ring, read_ring, write_order, read_order, notify_word, peer_live, cons_word, low8}
use Rattle.vchan_protocol.specs.Table.Calls.{notify}
use Rattle.vchan_core.specs.OneMachine.Phases.{standing, at_phase, rest}

-- the machine, if it puts or takes byte number `at` next
abbrev pub put_at : Machine → Span → ℕ → Machine
put_at m span at = at_phase m (Put at span.count span.answer)

abbrev pub take_at : Machine → Span → ℕ → Machine
take_at m span at = at_phase m (Take at span.count span.answer)

pub record IsPut (m : Machine) (span : Span) : Type 0 where
  pub here : m ≡ put_at m span span.at
  pub more : span.at < span.count
  pub ring : span.ring ≡ written_ring m.role
  pub order : span.order ≡ write_order (standing m)
  pub index : span.index ≡ m.prod

pub record IsTake (m : Machine) (span : Span) : Type 0 where
  pub here : m ≡ take_at m span span.at
  pub more : span.at < span.count
  pub ring : span.ring ≡ read_ring m.role
  pub order : span.order ≡ read_order (standing m)
  pub index : span.index ≡ m.cons

-- the event is on a byte of a ring
abbrev pub IsOnByte : Op → Type 0
IsOnByte (LoadByte word at) = Unit {0}
IsOnByte (StoreByte word at) = Unit {0}
IsOnByte _ = ⊥

abbrev pub IsAhead : Machine → Ahead → Type 0
IsAhead m (Puts span) = IsPut m span
IsAhead m (Takes span) = IsTake m span
IsAhead m Elsewhere = ¬ IsOnByte (next_op (rest m))

abbrev pub IsAnd : Op → Type 0
IsAnd (And word bits) = Unit {0}
IsAnd _ = ⊥

-- nothing is left of the call but this notify and its answer
pub record IsLastNotify (m : Machine) (last : LastNotify) : Type 0 where
  pub word : last.word ≡ notify_word m.role
  pub plan : rest m ≡ notify (standing m) last.bit (answers last.answer)

-- the word that a write or a send loads behind its peer's live byte, at the phase in which that byte is loaded
abbrev pub look_at : Role → Phase → Option WordName
look_at role (WriteLive len) = Some (cons_word (written_ring role))
look_at role (SendLive len) = Some (cons_word (written_ring role))
look_at role _ = None

abbrev pub look_behind : Machine → Option WordName
look_behind m = elim m.phase [ None ↦ None | Some phase ↦ look_at m.role phase ]

-- the peer's live byte is loaded next, and behind it this word wherever that byte isn't 0
pub record IsLookBehind (m : Machine) (word : WordName) : Type 0 where
  pub live : next_op (rest m) ≡ Load (peer_live m.role)
  pub look : (value : ℕ) → (low8 value == 0) ≡ false → next_op (after (rest m) value) ≡ Load word
