-- The session of an end, and what a turn makes of it.
-- Source: this project's own.
use Rattle.std.specs.Prelude.{◌≡◌, ◌≢◌, ◌⊎◌, ℕ, ◌≤◌, Bool, true, false, List, [], length, map, slice_get, unwrap_or, None}
use Rattle.end_view.specs.EndView.{EndView}
use Rattle.vchan_rule.specs.Seated.{view}
use Rattle.task_duties.specs.GivenEnds.{done_view}
use Rattle.channel_session.specs.declared.pause.Turned.{Turned}
use Rattle.qrexec_data.specs.CallerSide.{caller_half}
use Rattle.channel_session.specs.Session.{CallerAt, ServingAt, Turns, builtin_half}
use Rattle.channel_session.specs.Turning.{first_pace}
use Rattle.agent_slots.specs.declared.stage.Stage.{Stage}
use Rattle.agent_slots.specs.declared.stage.Stage.TheVariants as stage
use Rattle.agent_slots.specs.declared.slot.Slot.{Slot}

-- none has begun; or that of a caller, one whose page isn't offered yet, or that of a side that serves; or one that is over, by its retired end
pub data Session : Type 0 where
  NotBegun : Session
  CallsWith : CallerAt → Session
  AwaitsPage : Session
  ServesWith : ServingAt → Session
  EndedWith : EndView → Session

abbrev pub session_of : Stage → Session
session_of (stage.Calls number input side session) = CallsWith session
session_of (stage.Awaits number service serving side) = AwaitsPage
session_of (stage.Serves number service side session) = ServesWith session
session_of (stage.CallIsOver number input done end) = EndedWith (done_view end)
session_of (stage.ServingIsOver number service outcome got end) = EndedWith (done_view end)
session_of _ = NotBegun

-- the sessions of all ends, each at the place of its end
abbrev pub sessions_in : List Slot → List Session
sessions_in slots = map (λ s. session_of s.stage) slots

abbrev pub session_at : List Session → ℕ → Session
session_at sessions i = unwrap_or (slice_get sessions i) NotBegun

-- it has begun, and isn't over
abbrev pub is_open : Session → Bool
is_open NotBegun = false
is_open (EndedWith end) = false
is_open session = true

abbrev pub has_ended : Session → Bool
has_ended (EndedWith end) = true
has_ended session = false

-- ---- its bytes

-- all that came on its end, and all that went
abbrev pub got_in : Session → List ℕ
got_in NotBegun = []
got_in (CallsWith at) = (view at.end).got
got_in AwaitsPage = []
got_in (ServesWith at) = (view at.end).got
got_in (EndedWith end) = end.got

abbrev pub sent_in : Session → List ℕ
sent_in NotBegun = []
sent_in (CallsWith at) = (view at.end).sent
sent_in AwaitsPage = []
sent_in (ServesWith at) = (view at.end).sent
sent_in (EndedWith end) = end.sent

-- no fewer bytes came and went than before
pub record LosesNothing (old new : Session) : Type 0 where
  pub got : length (got_in old) ≤ length (got_in new)
  pub sent : length (sent_in old) ≤ length (sent_in new)

-- an open session is over now, and its end is retired; no fewer bytes came and went on it than before
pub record ComesToItsEnd (old new : Session) : Type 0 where
  pub end : EndView
  pub was_open : is_open old ≡ true
  pub is : new ≡ EndedWith end
  pub keeps : LosesNothing old new

-- ---- a turn

-- a session takes its turn: a caller or a side that serves makes one, and that says what it did; a page that came is served at once; a page that didn't come is
-- awaited on; or the session comes to its end. One that hasn't begun, and one that is over, stays as it is
pub data TakesTurn (old new : Session) : Type 0 where
  HadNotBegun : old ≡ NotBegun → new ≡ NotBegun → TakesTurn old new
  CallMade : (before now : CallerAt) (turned : Turned) → old ≡ CallsWith before → new ≡ CallsWith now → Turns caller_half turned before now → now.half.replies.outcome ≡ None → TakesTurn old new
  ServingMade : (before now : ServingAt) (turned : Turned) → old ≡ ServesWith before → new ≡ ServesWith now → Turns builtin_half turned before now → now.half.answering.outcome ≡ None → TakesTurn old new
  PageCame : (before now : ServingAt) (turned : Turned) → old ≡ AwaitsPage → before.pace ≡ first_pace → new ≡ ServesWith now → Turns builtin_half turned before now → now.half.answering.outcome ≡ None
      → TakesTurn old new
  PageAwaited : old ≡ AwaitsPage → new ≡ AwaitsPage → TakesTurn old new
  IsOver : ComesToItsEnd old new → TakesTurn old new
  WasOver : (end : EndView) → old ≡ EndedWith end → new ≡ EndedWith end → TakesTurn old new

-- each session takes its turn, by the place of its end
abbrev pub AllTakeTurns : List Session → List Session → Type 0
AllTakeTurns old new = (i : ℕ) → TakesTurn (session_at old i) (session_at new i)

-- the sessions that had begun are as they were
abbrev pub KeepsSessions : List Session → List Session → Type 0
KeepsSessions old new = (i : ℕ) → session_at old i ≢ NotBegun → session_at new i ≡ session_at old i

-- ---- its parts

-- a page that is awaited came, and its session began; or nothing changed
abbrev pub Begins : Session → Session → Type 0
Begins old new = (new ≡ old) ⊎ ((old ≡ AwaitsPage) × ((at : ServingAt) × (new ≡ ServesWith at) × (at.pace ≡ first_pace)))

-- the session at this place took its turn, and the others are as they were
pub record OneTakesTurn (at : ℕ) (old new : List Session) : Type 0 where
  pub here : TakesTurn (session_at old at) (session_at new at)
  pub others : (i : ℕ) → i ≢ at → session_at new i ≡ session_at old i
