-- What an end may rely on while it waits for its next round.
-- Source: libxenvchan's io.c: a call in blocking mode asks for a signal and looks again before it waits for the event. The statements are this project's own.
use Rattle.std.specs.Prelude.{◌≡◌, ◌≢◌, ℕ, ◌<◌, false, List, None, bit_and}
use Rattle.ring_words.specs.declared.page.Role.{Role}
use Rattle.vchan_protocol.specs.declared.op.PastEvent.{PastEvent}
use Rattle.vchan_protocol.specs.declared.call.Answer.{Answer}
use Rattle.vchan_protocol.specs.declared.call.Answer.TheVariants.{Wrote, Full, NoRoom, Empty, Short, Event}
use Rattle.vchan_protocol.specs.declared.call.Bit.{Bit}
use Rattle.vchan_protocol.specs.declared.call.Bit.TheVariants.{Written, Consumed}
use Rattle.vchan_protocol.specs.declared.call.Call.{Call}
use Rattle.vchan_protocol.specs.declared.call.Call.TheVariants.{Write, Send, Read, Recv, TakeEvent}
use Rattle.vchan_protocol.specs.declared.side.Side.{Side}
use Rattle.vchan_protocol.specs.Table.Ends.{Standing, ask_word, own_pending, peer_live, mask, free_at, low8, low32}
use Rattle.vchan_protocol.specs.Table.Calls.{Trace}
use Rattle.vchan_protocol.specs.History.Core.{Core, side_of, standing_of}
use Rattle.vchan_protocol.specs.History.Peer.{held, peer}
use Rattle.vchan_protocol.specs.OneEnd.OneCall.{side_called}
use Rattle.vchan_protocol.specs.Signals.SignalLaw.{NoLostSignal, peer_index}

-- the bit by which a round asks for a signal: for room, or for bytes
abbrev pub bit_of : Call → Bit
bit_of (Write n) = Consumed
bit_of (Send n) = Consumed
bit_of call = Written

-- the round didn't do what was asked of it, and more may come: its call waits
abbrev pub IsUnfinished : Call → Answer → Type 0
IsUnfinished (Write n) (Wrote count) = count < n
IsUnfinished (Write n) (Full prod cons) = Unit {0}
IsUnfinished (Send n) (NoRoom prod cons) = Unit {0}
IsUnfinished (Read n) (Empty prod cons) = 0 < n
IsUnfinished (Recv n) (Short prod cons) = Unit {0}
IsUnfinished call answer = ⊥

-- the index of its peer by which an end in this standing answered: that of its last look
abbrev pub IsAnsweredBy : Standing → Answer → ℕ → Type 0
IsAnsweredBy e (Wrote count) index = free_at e index ≡ count
IsAnsweredBy e (Full prod cons) index = index ≡ cons
IsAnsweredBy e (NoRoom prod cons) index = index ≡ cons
IsAnsweredBy e (Empty prod cons) index = index ≡ prod
IsAnsweredBy e (Short prod cons) index = index ≡ prod
IsAnsweredBy e answer index = ⊥

-- tries to take an event, one after the other, that all found none
pub data TriesInVain : Side → Side → Type 0 where
  TriesNone : {s : Side} → TriesInVain s s
  TriesOnce : {s later : Side} (payload : List ℕ) (events : List PastEvent) → Trace (standing_of s) TakeEvent events (Event false) → TriesInVain (side_called s TakeEvent payload events (Event false)) later → TriesInVain s later

-- the end's bit is set, so its peer signals when it stores its index next; that index is still the one by which the round answered; and the peer isn't shut
pub record StillWaits (core : Core) (who : Role) (begun : Standing) (call : Call) (answer : Answer) : Type 0 where
  pub bit_stands : bit_and (held core (ask_word who)) (mask (bit_of call)) ≢ 0
  pub index_stands : IsAnsweredBy begun answer (low32 (held core (peer_index who (bit_of call))))
  pub peer_open : low8 (held core (peer_live who)) ≢ 0

-- If an end made a round that was left unfinished and since then only tries that found no event, no signal is there for it to take and its peer is between two calls, it has missed nothing.
abbrev pub RoundMissesNothing : Type 0
RoundMissesNothing =
    (core : Core) (was : Side) (call : Call) (payload : List ℕ) (events : List PastEvent) (answer : Answer) → NoLostSignal core →
    Trace (standing_of was) call events answer → TriesInVain (side_called was call payload events answer) (side_of core was.role) → IsUnfinished call answer →
    held core (own_pending was.role) ≡ 0 → (side_of core (peer was.role)).call ≡ None →
    StillWaits core was.role (standing_of was) call answer
