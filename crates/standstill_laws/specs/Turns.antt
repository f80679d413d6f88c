-- Two sides of a session whose turns moved nothing, on a page on which nothing has changed since.
-- Source: this project's own.
use Rattle.std.specs.Prelude.{◌≡◌, ◌≢◌, Bool, ℕ, List}
use Rattle.ring_words.specs.declared.page.Role.{Role}
use Rattle.ring_words.specs.declared.page.Role.TheVariants.{Server, Client}
use Rattle.service_gate.specs.Triple.{Triple}
use Rattle.vchan_protocol.specs.declared.call.EndState.TheVariants.{Shut}
use Rattle.vchan_protocol.specs.Table.Ends.{read_ring, written_ring}
use Rattle.vchan_protocol.specs.Answering.Loads.{loads_of}
use Rattle.vchan_protocol.specs.History.Core.{Core, side_of, standing_of}
use Rattle.vchan_protocol.specs.Honest.Lawful.{Lawful}
use Rattle.vchan_rule.specs.Seated.{SeatedEnd}
use Rattle.qrexec_data.specs.CallerSide.{caller_half}
use Rattle.channel_session.specs.declared.pause.Turned.TheVariants.{Quiet}
use Rattle.channel_session.specs.Turning.{IsQuiet, SendsNone, NothingWaits, WasShut, RingIsFull, PeerIsShut}
use Rattle.channel_session.specs.Session.{CallerAt, ServingAt, StandsOn, builtin_half}
use Rattle.standstill_laws.specs.Page.{AreIndices, IsLiveStill}
use Rattle.standstill_laws.specs.Sides.{SideAt, IsUndecided, SideTurns}
use Rattle.qrexec_data.specs.Laws.{IsVersion}

-- why nothing went is still so: the indices that the write answered with, or the live byte that it loaded, are those of the page
abbrev pub SendsStill : Core → Role → {still : Type 0} {waiting : List ℕ} {was_shut : Bool} {before now : SeatedEnd} → SendsNone still waiting was_shut before now → Type 0
SendsStill core who (NothingWaits none same) = Unit {0}
SendsStill core who (WasShut was saw same) = Unit {0}
SendsStill core who (RingIsFull some full) = AreIndices core (written_ring who) full.prod full.cons
SendsStill core who {before = before} {now = now} (PeerIsShut some shut) = IsLiveStill core who (loads_of (standing_of before.side) now.side.trail)

-- the end is as its quiet turn left it, and what the turn found is still so
pub record IsQuietStill (core : Core) (who : Role) {still : Type 0} {waiting : List ℕ} {was_shut : Bool} {before now : SeatedEnd} (q : IsQuiet still waiting was_shut before now) : Type 0 where
  pub is_now : now.side ≡ side_of core who
  pub drained : AreIndices core (read_ring who) q.not_yet.prod q.not_yet.cons
  pub sends : SendsStill core who q.sends

-- a side of a session, whose end isn't shut and which nothing has decided, made a quiet turn since which nothing changed
pub record SideIsQuiet (core : Core) (who : Role) (before now : SideAt who) : Type 0 where
  pub opened : (side_of core who).state ≢ Shut
  pub undecided : IsUndecided who before
  pub turn : SideTurns who Quiet before now
  pub still : IsQuietStill core who turn.2

-- so did both sides of a session between honest ends
pub record BothAreQuiet (core : Core) (owed : List ℕ → Triple) (c c' : CallerAt) (s s' : ServingAt) : Type 0 where
  pub lawful : Lawful core
  pub calls : StandsOn caller_half tt c.half c.end
  pub serves : StandsOn builtin_half owed s.half s.end
  pub caller_version : IsVersion c.half.replies.own
  pub serving_version : IsVersion s.half.answering.own
  pub caller : SideIsQuiet core Server c c'
  pub serving : SideIsQuiet core Client s s'

-- there are no such two
abbrev pub NoSessionStandsStill : Type 0
NoSessionStandsStill = (core : Core) (owed : List ℕ → Triple) (c c' : CallerAt) (s s' : ServingAt) → ¬ BothAreQuiet core owed c c' s s'
