-- The two sides of an open session that make turns in which nothing moved: they don't both make eight in a row.
-- Source: how many turns a session passes over is this project's own.
use Rattle.std.specs.Prelude.{◌≡◌, ◌≤◌, Bool, ℕ, false, List, Some}
use Rattle.ring_words.specs.declared.page.Role.{Role}
use Rattle.vchan_protocol.specs.Table.Ends.{read_ring, peer_gone}
use Rattle.vchan_protocol.specs.Answering.Loads.{Loads, loads_of}
use Rattle.vchan_protocol.specs.History.Core.{Core, side_of, standing_of}
use Rattle.vchan_protocol.specs.History.Peer.{peer}
use Rattle.vchan_protocol.specs.Honest.RingLaw.{word_at}
use Rattle.vchan_rule.specs.Seated.{SeatedEnd}
use Rattle.qrexec_data.specs.Laws.{IsVersion}
use Rattle.channel_session.specs.declared.pause.Turned.TheVariants.{Quiet}
use Rattle.channel_session.specs.Turning.{IsQuiet}
use Rattle.standstill_laws.specs.Page.{AreIndices}
use Rattle.standstill_laws.specs.Sides.{SideAt, half_at, SideStands, HoldsEnd, SideTurns, SideRests}
use Rattle.standstill_laws.specs.Turns.{SendsStill}
use Rattle.standstill_laws.specs.Moments.{AreMoments, WasSo}

-- the gone word of the peer that a call loaded is that of the page
abbrev pub IsGoneStill : Core → Role → Loads → Type 0
IsGoneStill core who loads = loads.gone ≡ Some (word_at core.orders core.words (peer_gone who))

-- the end that a quiet turn left, and what each of its calls loaded, were those of its page at moments between these two
pub record IsQuietBetween (first last : Core) (who : Role) {still : Type 0} {waiting : List ℕ} {was_shut : Bool} {before now : SeatedEnd} (q : IsQuiet still waiting was_shut before now) : Type 0 where
  pub left : WasSo first last (λ core. now.side ≡ side_of core who)
  pub drained : WasSo first last (λ core. AreIndices core (read_ring who) q.not_yet.prod q.not_yet.cons)
  pub here : WasSo first last (λ core. IsGoneStill core who (loads_of (standing_of q.found.side) q.left.side.trail))
  pub sends : WasSo first last (λ core. SendsStill core who q.sends)

-- a quiet turn of a side of a session, whose parts agree, found that
pub record FoundBetween (first last : Core) (who : Role) (before now : SideAt who) (turn : SideTurns who Quiet before now) : Type 0 where
  pub stands : SideStands who before
  pub version : IsVersion ((half_at who).own before.half)
  pub found : IsQuietBetween first last who turn.2

-- a side of an open session that made eight turns or more in which nothing moved, between these moments of its page
pub record RestsLong (first last : Core) (who : Role) : Type 0 where
  pub turns : ℕ
  pub from : SideAt who
  pub to : SideAt who
  pub rests : SideRests who (FoundBetween first last who) turns from to
  pub long : 8 ≤ turns
  pub first_held : HoldsEnd who from (side_of first who)
  pub last_held : HoldsEnd who to (side_of last who)

-- not both sides of a session between honest ends did; and where one side made so many turns, the end across from it wasn't retired at the first moment
pub record NoSessionRests : Type 0 where
  pub both : (first last : Core) → AreMoments first last → ¬ ((who : Role) → RestsLong first last who)
  pub alone : (first last : Core) (who : Role) (n : ℕ) (from to : SideAt who) → SideRests who (FoundBetween first last who) n from to → 8 ≤ n → (side_of first (peer who)).retired ≡ false
