-- A side of a call with the end of its data channel, and its turns.
use Rattle.std.specs.Prelude.{◌≡◌, ◌⊎◌, ◌<◌, ◌≤◌, Bool, true, false, [], length, Option, Some, None, IsSome}
use Rattle.ring_words.specs.declared.page.Role.TheVariants.{Client}
use Rattle.vchan_protocol.specs.declared.call.EndState.TheVariants.{Fresh, Open, Shut}
use Rattle.service_gate.specs.Owing.{builtin_owes}
use Rattle.service_gate.specs.declared.builtin.Builtin.{Builtin}
use Rattle.qrexec_data.specs.declared.outcome.Outcome.{Outcome}
use Rattle.qrexec_data.specs.declared.outcome.Outcome.TheVariants.{Done, Fault, Closed, Gone}
use Rattle.qrexec_data.specs.Half.{HalfOf}
use Rattle.qrexec_data.specs.CallerSide.{CallerState}
use Rattle.qrexec_data.specs.ServingSide.{ServingState, serving_half}
use Rattle.vchan_rule.specs.Seated.{SeatedEnd, view}
use Rattle.vchan_rule.specs.Ends.{IsSameEnd}
use Rattle.end_view.specs.EndView.{EndView}
use Rattle.task_duties.specs.Agent.Sessions.{chunk, IsClosed, IsGone}
use Rattle.channel_session.specs.declared.pause.Turned.{Turned}
use Rattle.channel_session.specs.declared.pause.Turned.TheVariants.{Moved, Quiet, Passed}
use Rattle.vchan_lifecycle.specs.Lifecycle.{FindsNotYet}
use Rattle.channel_session.specs.Turning.{Pace, IsMade, HasMoved, HasRested, SendsNone, IsQuiet, FindsNoEvent, MayPass, IsPassed}

pub record SessionAt (S : Type 0) : Type 0 where
  pub half : S
  pub end : SeatedEnd
  pub pace : Pace

-- the session of a caller, and that of a side with a builtin service
abbrev pub CallerAt : Type 0
CallerAt = SessionAt CallerState

abbrev pub ServingAt : Type 0
ServingAt = SessionAt (ServingState Builtin)

abbrev pub builtin_half : HalfOf (ServingState Builtin)
builtin_half = serving_half builtin_owes

-- the state of the end by the outcome so far: it is open, and its stream goes on, while there is none
abbrev pub EndsBy : Bool → Option Outcome → EndView → Type 0
EndsBy connects None end = (end.state ≡ Open) × (end.ended ≡ None)
EndsBy connects (Some (Done code)) end = Unit {0}
EndsBy connects (Some (Fault fault)) end = Unit {0}
EndsBy connects (Some Closed) end = IsClosed end ⊎ ((connects ≡ true) × (end.misled ≡ true))
EndsBy connects (Some Gone) end = IsGone end

-- the end is as the side's outcome says
pub record IsAtWork {S : Type 0} (h : HalfOf S) (half : S) (end : SeatedEnd) : Type 0 where
  pub chunk_is : h.chunk half ≡ chunk
  pub idle : (view end).idle ≡ true
  pub ends : EndsBy h.connects (h.outcome half) (view end)

-- the side got what its end got, and stands for what its end sent
pub record StandsOn {S : Type 0} (h : HalfOf S) (owed : h.Owed) (half : S) (end : SeatedEnd) : Type 0 where
  pub got : h.got half ≡ (view end).got
  pub stands : h.StandsFor owed half (view end).sent

-- nothing was read or sent yet, and the end isn't connected
pub record IsFreshCall (serving : ServingState Builtin) (end : SeatedEnd) : Type 0 where
  pub chunk_is : serving.answering.chunk ≡ chunk
  pub undecided : serving.answering.outcome ≡ None
  pub nothing : serving.inbox.got ≡ []
  pub role : (view end).role ≡ Client
  pub idle : (view end).idle ≡ true
  pub fresh : (view end).state ≡ Fresh
  pub sent : (view end).sent ≡ []
  pub got : (view end).got ≡ []
  pub ended : (view end).ended ≡ None

-- a retired end is the one that it was, shut and told so
abbrev pub IsRetired : EndView → EndView → Type 0
IsRetired before now = now ≡ record before { state = Shut; retired = true }

-- ---- a turn

-- nothing can go out of a side that stands for what its end sent
abbrev pub HasNothing : {S : Type 0} → HalfOf S → SessionAt S → Type 0
HasNothing h s = (owed : h.Owed) → StandsOn h owed s.half s.end → h.IsStill s.half

-- a turn that moved something: bytes, or the call is over; one that was quiet; and one that was passed over: each on the same end of the same page
abbrev pub Turns : {S : Type 0} → HalfOf S → Turned → SessionAt S → SessionAt S → Type 0
Turns h Moved old new = HasMoved (view old.end) (view new.end) (h.outcome new.half) × IsMade false new.pace × IsSameEnd old.end new.end
Turns h Quiet old new = HasRested (view old.end) (view new.end) (h.outcome new.half) × IsMade true new.pace
    × IsQuiet (HasNothing h old) (h.waiting new.half) old.pace.peer_shut old.end new.end
Turns h Passed old new = (new.half ≡ old.half) × IsPassed old.pace new.pace old.end new.end

-- its first half: bytes came, or the call is over, and what came before stays; or the drain found nothing
abbrev pub Reads : {S : Type 0} → HalfOf S → Bool → SessionAt S → SessionAt S → Type 0
Reads h true old new =
    (length (view old.end).got ≤ length (view new.end).got) × ((length (view old.end).got < length (view new.end).got) ⊎ IsSome (h.outcome new.half))
Reads h false old new = (new.half ≡ old.half) × ((view new.end).got ≡ (view old.end).got) × FindsNotYet old.end new.end

-- its second half
abbrev pub Writes : {S : Type 0} → HalfOf S → Bool → SessionAt S → SessionAt S → Type 0
Writes h true old new = length (view old.end).sent < length (view new.end).sent
Writes h false old new = ((view new.end).sent ≡ (view old.end).sent) × (h.outcome new.half ≡ h.outcome old.half)
    × SendsNone (HasNothing h old) (h.waiting new.half) old.pace.peer_shut old.end new.end

-- a turn is due, or it may be passed over since no signal was pending
abbrev pub IsDueOrPasses : Bool → Pace → SeatedEnd → SeatedEnd → Type 0
IsDueOrPasses true pace before now = Unit {0}
IsDueOrPasses false pace before now = MayPass pace × FindsNoEvent before now
