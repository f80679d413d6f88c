-- What a turn of a session did, and why it did no more: by what its calls on the end found.
-- Source: the answers are those of the end's calls; how many turns are passed over is this project's own.
use Rattle.std.specs.Prelude.{◌≡◌, ◌⊎◌, ℕ, ◌+◌, ◌<◌, ◌≤◌, Bool, true, false, List, length, Option, None, IsSome}
use Rattle.vchan_protocol.specs.declared.call.Call.TheVariants.{Write, TakeEvent}
use Rattle.vchan_protocol.specs.declared.call.Answer.TheVariants.{Full, PeerClosed, Event}
use Rattle.vchan_protocol.specs.Table.Calls.{Trace}
use Rattle.vchan_protocol.specs.Answering.Causes.{Cause}
use Rattle.vchan_protocol.specs.Answering.Loads.{loads_of}
use Rattle.vchan_protocol.specs.History.Core.{standing_of}
use Rattle.end_view.specs.EndView.{EndView}
use Rattle.qrexec_data.specs.declared.outcome.Outcome.{Outcome}
use Rattle.vchan_rule.specs.Seated.{SeatedEnd, view}
use Rattle.vchan_rule.specs.Ends.{IsSameEnd}
use Rattle.vchan_rule.specs.Called.{most_asked}
use Rattle.vchan_lifecycle.specs.Lifecycle.{FindsNotYet}
use Rattle.channel_session.specs.declared.pause.Turned.{Turned}
use Rattle.channel_session.specs.declared.pause.Turned.TheVariants.{Moved, Quiet}

-- what a session keeps of its turns: whether a write found its peer shut, whether the last turn that was made was quiet, and how many were passed over since
pub record Pace : Type 0 where
  pub peer_shut : Bool
  pub quiet : Bool
  pub passed : ℕ

-- before the first turn
abbrev pub first_pace : Pace
first_pace = record { peer_shut = false; quiet = false; passed = 0 }

-- what is kept after a turn that was made
abbrev pub IsMade : Bool → Pace → Type 0
IsMade quiet pace = (pace.quiet ≡ quiet) × (pace.passed ≡ 0)

-- ---- a turn that moved something

-- no byte that came or went is taken back
pub record KeepsBytes (before now : EndView) : Type 0 where
  pub got : length before.got ≤ length now.got
  pub sent : length before.sent ≤ length now.sent

-- bytes came or went, or the call is over; and what came and went before stays
pub record HasMoved (before now : EndView) (outcome : Option Outcome) : Type 0 where
  pub kept : KeepsBytes before now
  pub more : (length before.got < length now.got) ⊎ (length before.sent < length now.sent) ⊎ IsSome outcome

-- no bytes came or went, and the call isn't over
abbrev pub HasRested : EndView → EndView → Option Outcome → Type 0
HasRested before now outcome = (now.got ≡ before.got) × (now.sent ≡ before.sent) × (outcome ≡ None)

-- ---- a quiet turn

-- a write of this many bytes found no room, or the peer shut
pub record FindsFull (before now : SeatedEnd) (count : ℕ) : Type 0 where
  pub prod : ℕ
  pub cons : ℕ
  pub trail : Trace (standing_of before.side) (Write count) now.side.trail (Full prod cons)
  pub cause : Cause (standing_of before.side) (Write count) (loads_of (standing_of before.side) now.side.trail) (Full prod cons)

pub record FindsShut (before now : SeatedEnd) (count : ℕ) : Type 0 where
  pub trail : Trace (standing_of before.side) (Write count) now.side.trail PeerClosed
  pub cause : Cause (standing_of before.side) (Write count) (loads_of (standing_of before.side) now.side.trail) PeerClosed

-- why nothing went, where these bytes wait: nothing may go, the peer was found shut in an earlier turn, of which its end knows, or the write found no room or the peer shut
pub data SendsNone (still : Type 0) (waiting : List ℕ) (was_shut : Bool) (before now : SeatedEnd) : Type 0 where
  NothingWaits : still → now ≡ before → SendsNone still waiting was_shut before now
  WasShut : was_shut ≡ true → (view before).saw ≡ true → now ≡ before → SendsNone still waiting was_shut before now
  RingIsFull : 0 < length waiting → FindsFull before now (most_asked waiting) → SendsNone still waiting was_shut before now
  PeerIsShut : 0 < length waiting → FindsShut before now (most_asked waiting) → SendsNone still waiting was_shut before now

-- the drain of a turn found nothing, and then nothing went
pub record IsQuiet (still : Type 0) (waiting : List ℕ) (was_shut : Bool) (before now : SeatedEnd) : Type 0 where
  -- the end as the drain found it, and as it left it: the same end of the same page throughout
  pub found : SeatedEnd
  pub left : SeatedEnd
  pub same : IsSameEnd before found
  pub same_left : IsSameEnd found left
  pub same_now : IsSameEnd left now
  pub view_is : view found ≡ view before
  pub not_yet : FindsNotYet found left
  pub sends : SendsNone still waiting was_shut left now

-- ---- a turn that was passed over

-- no signal was pending; it is the same end of the same page
pub record FindsNoEvent (before now : SeatedEnd) : Type 0 where
  pub same : IsSameEnd before now
  pub view_is : view now ≡ view before
  pub trail : Trace (standing_of before.side) TakeEvent now.side.trail (Event false)
  pub cause : Cause (standing_of before.side) TakeEvent (loads_of (standing_of before.side) now.side.trail) (Event false)

-- a turn may be passed over after a quiet one, if fewer than seven were since
abbrev pub MayPass : Pace → Type 0
MayPass pace = (pace.quiet ≡ true) × (pace.passed < 7)

pub record IsPassed (old new : Pace) (before now : SeatedEnd) : Type 0 where
  pub may : MayPass old
  pub pace : new ≡ record old { passed = old.passed + 1 }
  pub no_event : FindsNoEvent before now

-- ---- the peer

-- a session that keeps that its peer is shut has an end that found it so while it wasn't shut itself
abbrev pub HasSeenShut : Bool → SeatedEnd → Type 0
HasSeenShut peer_shut end = peer_shut ≡ true → (view end).saw ≡ true

-- that the peer is shut is kept for good, and only of a write of this end that found it so, in this turn or an earlier one
abbrev pub KeepsShut : Pace → Pace → SeatedEnd → SeatedEnd → Type 0
KeepsShut old new before now =
    (old.peer_shut ≡ true → new.peer_shut ≡ true)
    × (new.peer_shut ≡ true → (old.peer_shut ≡ true) ⊎ ((left : SeatedEnd) × (count : ℕ) × IsSameEnd before left × FindsShut left now count))

-- ---- the answer

abbrev pub turned_by : Bool → Turned
turned_by true = Moved
turned_by false = Quiet
