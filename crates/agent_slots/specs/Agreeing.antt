-- How what is kept of the ends agrees with the session of each.
-- Source: this project's own.
use Rattle.std.specs.Prelude.{◌≡◌, ℕ, ◌≤◌, true, List, [], ◌∷◌, ◌++◌, length, map, slice_get, Some}
use Rattle.std.specs.List.{AllByRecursion as Each}
use Rattle.task_duties.specs.declared.place.PagePlace.{PagePlace}
use Rattle.task_duties.specs.declared.done.SessionEnd.{SessionEnd}
use Rattle.service_gate.specs.Owing.{builtin_owes}
use Rattle.service_gate.specs.declared.builtin.Builtin.{Builtin}
use Rattle.qrexec_data.specs.CallerSide.{caller_half}
use Rattle.vchan_rule.specs.Seated.{IsOpen}
use Rattle.channel_session.specs.Session.{IsAtWork, StandsOn, builtin_half}
use Rattle.agent_slots.specs.Slots.{SlotsState, place_at}
use Rattle.agent_slots.specs.Sessions.{Session, NotBegun, CallsWith, ServesWith, EndedWith, is_open, session_at}
use Rattle.agent_slots.specs.Done.{IsToldOver}

-- the places at which no session has begun
abbrev pub place_if_free : PagePlace → Session → List PagePlace
place_if_free place NotBegun = place ∷ []
place_if_free place session = []

abbrev pub places_free : List PagePlace → List Session → List PagePlace
places_free (place ∷ places) (session ∷ sessions) = place_if_free place session ++ places_free places sessions
places_free _ _ = []

abbrev pub places_of : SlotsState → List PagePlace
places_of s = map (λ h. h.place) s.held

-- a session that is told of as open was begun, and is open at the place where it is told to be
pub record IsOpenAt (s : SlotsState) (o : SessionEnd) : Type 0 where
  pub begun : IsToldOver s o
  pub at : ℕ
  pub place_is : slice_get (places_of s) at ≡ Some (place_at s.domain o.call o.domain o.port)
  pub is_open : is_open (session_at s.sessions at) ≡ true

-- the two parts of a session that is open agree, in this version; the end of one that is over is retired
abbrev pub SessionStands : ℕ → Session → Type 0
SessionStands version (CallsWith at) = IsAtWork caller_half at.half at.end × (at.half.replies.own ≡ version) × StandsOn caller_half tt at.half at.end × IsOpen at.end
SessionStands version (ServesWith at) =
    IsAtWork builtin_half at.half at.end × (at.half.answering.own ≡ version) × ((service : Builtin) × StandsOn builtin_half (builtin_owes service) at.half at.end)
SessionStands version (EndedWith end) = end.retired ≡ true
SessionStands version session = Unit {0}

-- each end has a session; it is unused as long as that hasn't begun, the parts of each session agree, that of one that is over is retired, and those that are told of as open are
pub record Agrees (s : SlotsState) : Type 0 where
  pub version : (2 ≤ s.version) × (s.version ≤ 3)
  pub count : length s.sessions ≡ length s.held
  pub sessions : Each (SessionStands s.version) s.sessions
  pub unused : s.unused ≡ places_free (places_of s) s.sessions
  pub opened : Each (IsOpenAt s) s.opened
