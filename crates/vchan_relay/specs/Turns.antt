-- What one turn of a relay does: a drain of its near end if it holds nothing, and else a write of the held bytes to its far end.
-- Source: this project's own.
use Rattle.std.specs.Prelude.{◌≡◌, ◌≢◌, ◌≤◌, ◌==◌, ℕ, Bool, true, false, IsSome, List, [], length, take, drop, if◌then◌else◌}
use Rattle.vchan_protocol.specs.declared.call.Call.TheVariants.{Drain, Write}
use Rattle.vchan_protocol.specs.Table.Calls.{Trace}
use Rattle.vchan_protocol.specs.History.Core.{standing_of}
use Rattle.end_view.specs.AfterCall.{DrainSees}
use Rattle.vchan_rule.specs.Seated.{SeatedEnd, view}
use Rattle.vchan_rule.specs.Called.{most_asked}
use Rattle.vchan_lifecycle.specs.Lifecycle.{drained_to, drain_told, shut}
use Rattle.vchan_lifecycle.specs.declared.DrainAnswer.{DrainAnswer}
use Rattle.vchan_lifecycle.specs.declared.DrainAnswer.TheVariants.{More, NotYet as NothingYet, AllRead, PeerGone}
use Rattle.vchan_stream.specs.Stream.{write_told, wrote_to}
use Rattle.vchan_stream.specs.declared.WriteAnswer.{WriteAnswer}
use Rattle.vchan_stream.specs.declared.WriteAnswer.TheVariants.{Wrote, Full as NoRoom, PeerClosed}
use Rattle.vchan_relay.specs.declared.turn.RelayTurn.{RelayTurn}
use Rattle.vchan_relay.specs.declared.turn.RelayTurn.TheVariants.{Took, Passed, NotYet, Full, Ended, NearGone, FarClosed}
use Rattle.vchan_relay.specs.Relay.{RelayState}

-- the turn's answer, by that of its drain, and by that of its write of these bytes
abbrev pub by_drain : DrainAnswer → RelayTurn
by_drain (More count) = Took count
by_drain (NothingYet prod cons) = NotYet prod cons
by_drain AllRead = Ended
by_drain (PeerGone prod cons) = if prod == cons then Ended else NearGone prod cons

abbrev pub by_write : ℕ → WriteAnswer → RelayTurn
by_write held (Wrote count) = Passed count
by_write held (NoRoom prod cons) = Full prod cons
by_write held PeerClosed = FarClosed held

-- the answers after which both ends are shut
abbrev pub ends_relay : RelayTurn → Bool
ends_relay Ended = true
ends_relay (NearGone prod cons) = true
ends_relay (FarClosed held) = true
ends_relay _ = false

-- what is held after a drain into these bytes, and after a write of the held bytes
abbrev pub held_by_drain : DrainAnswer → List ℕ → List ℕ
held_by_drain (More count) bytes = take count bytes
held_by_drain answer bytes = []

abbrev pub held_by_write : WriteAnswer → List ℕ → List ℕ
held_by_write (Wrote count) held = drop count held
held_by_write answer held = held

-- an end after a drain that left these bytes in its buffer, and after a write of these bytes
pub record HasDrained (was : SeatedEnd) (answer : DrainAnswer) (bytes : List ℕ) (e : SeatedEnd) : Type 0 where
  pub view_is : view e ≡ drained_to (view was) answer bytes e.side.saw
  pub sees : DrainSees (drain_told answer) was.side.saw e.side.saw
  pub trail : Trace (standing_of was.side) (Drain (most_asked bytes)) e.side.trail (drain_told answer)

pub record HasWritten (was : SeatedEnd) (answer : WriteAnswer) (bytes : List ℕ) (e : SeatedEnd) : Type 0 where
  pub view_is : view e ≡ wrote_to (view was) answer bytes
  pub trail : Trace (standing_of was.side) (Write (most_asked bytes)) e.side.trail (write_told answer)

-- an end that the turn leaves as it was, or shuts
abbrev pub IsLeft : Bool → SeatedEnd → SeatedEnd → Type 0
IsLeft false before now = now ≡ before
IsLeft true before now = view now ≡ shut (view before)

-- a turn that found no byte held drained the near end, and one that found some wrote them to the far end
pub data HasTurned (was : RelayState) (turn : RelayTurn) (now : RelayState) : Type 0 where
  drained : (answer : DrainAnswer) (bytes : List ℕ) (near : SeatedEnd) → was.held ≡ [] → length bytes ≡ was.room → HasDrained was.near answer bytes near → turn ≡ by_drain answer → now.held ≡ held_by_drain answer bytes
      → IsLeft (ends_relay turn) near now.near → IsLeft (ends_relay turn) was.far now.far → HasTurned was turn now
  wrote : (answer : WriteAnswer) (far : SeatedEnd) → was.held ≢ [] → HasWritten was.far answer was.held far → turn ≡ by_write (length was.held) answer → now.held ≡ held_by_write answer was.held
      → IsLeft (ends_relay turn) was.near now.near → IsLeft (ends_relay turn) far now.far → HasTurned was turn now

-- what an answer tells of the relay that it leaves
abbrev pub Leaves : RelayTurn → RelayState → Type 0
Leaves (Took count) r = (1 ≤ count) × (length r.held ≡ count)
Leaves Ended r = (r.held ≡ []) × ((view r.near).drained ≡ true) × ((view r.near).saw ≡ true) × IsSome (view r.near).ended
Leaves (NearGone prod cons) r = (r.held ≡ []) × (prod ≢ cons) × ((view r.near).saw ≡ true) × IsSome (view r.near).ended
Leaves (FarClosed held) r = (length r.held ≡ held) × ((view r.far).saw ≡ true)
Leaves (Passed count) r = 1 ≤ count
Leaves _ r = Unit {0}

-- a task's turn is one of the relay, and another one if the first took bytes
pub data Advances (was now : RelayState) : Type 0 where
  once : (turn : RelayTurn) → ((count : ℕ) → turn ≢ Took count) → HasTurned was turn now → Advances was now
  twice : (count : ℕ) (between : RelayState) (turn : RelayTurn) → HasTurned was (Took count) between → HasTurned between turn now → Advances was now
