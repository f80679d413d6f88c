-- A data end, and what it is used for.
use Rattle.std.specs.Prelude.{◌≡◌, ℕ, List, [], Bool, true, false, Option, Some, None}
use Rattle.ring_words.specs.declared.page.Role.{Role}
use Rattle.ring_words.specs.declared.page.Role.TheVariants.{Client}
use Rattle.service_gate.specs.Owing.{builtin_owes}
use Rattle.service_gate.specs.declared.builtin.Builtin.{Builtin}
use Rattle.vchan_rule.specs.Seated.{view, IsOpen}
use Rattle.end_view.specs.EndView.{EndView, IsUnused, no_end}
use Rattle.task_duties.specs.declared.place.PagePlace.{PagePlace}
use Rattle.task_duties.specs.declared.place.PagePlace.TheVariants.{Payload}
use Rattle.task_duties.specs.declared.done.SessionEnd.{SessionEnd}
use Rattle.page_offer.specs.declared.server.LaidPage.{LaidPage}
use Rattle.page_offer.specs.Views.{unused_view}
use Rattle.task_duties.specs.GivenEnds.{done_view, fresh_view}
use Rattle.task_duties.specs.Agent.Sessions.{chunk, CallerOwes, IsService, ServingOwes}
use Rattle.qrexec_data.specs.declared.outcome.Outcome.{Outcome}
use Rattle.qrexec_data.specs.CallerSide.{CallerState, CallerStandsFor, caller_half}
use Rattle.qrexec_data.specs.ServingSide.{ServingState, ServingStandsFor}
use Rattle.channel_session.specs.Session.{IsAtWork, StandsOn, builtin_half}
use Rattle.agent_slots.specs.declared.stage.Stage.{Stage}
use Rattle.agent_slots.specs.declared.stage.Stage.TheVariants.{Unused, Calls, Awaits, Serves, CallIsOver, ServingIsOver, Taken}
use Rattle.agent_slots.specs.declared.slot.Slot.{Slot}
use Rattle.agent_slots.specs.declared.done.SessionDone.{SessionDone}
use Rattle.agent_slots.specs.declared.done.SessionDone.TheVariants.{Call, Serving}
use Rattle.agent_slots.specs.Slots.{Held, held_of}
use Rattle.agent_slots.specs.Sides.{HasLaid, IsSideOf, seen_under, is_late_unused, is_late_side, is_late_done}

-- what an end is used for: nothing, a call of the agent's own by its number, or what it serves by its number
pub data Use : Type 0 where
  ForNothing : Use
  ForCall : (number : ℕ) (input : List ℕ) → Use
  ForServing : (number : ℕ) (service : Builtin) → Use

abbrev pub is_nothing : Use → Bool
is_nothing ForNothing = true
is_nothing used = false

abbrev pub use_of : Stage → Use
use_of (Unused end) = ForNothing
use_of (Calls number input side session) = ForCall number input.value.items
use_of (Awaits number service serving side) = ForServing number service.value
use_of (Serves number service side session) = ForServing number service.value
use_of (CallIsOver number input done end) = ForCall number input.value.items
use_of (ServingIsOver number service outcome got end) = ForServing number service.value
use_of Taken = ForNothing

abbrev pub end_of : Stage → EndView
end_of (Unused end) = fresh_view end
end_of (Calls number input side session) = seen_under side (view session.end)
end_of (Awaits number service serving side) = unused_view side Client
end_of (Serves number service side session) = seen_under side (view session.end)
end_of (CallIsOver number input done end) = done_view end
end_of (ServingIsOver number service outcome got end) = done_view end
end_of Taken = no_end

-- whether its page is laid when it is first used
abbrev pub is_late : Stage → Bool
is_late (Unused end) = is_late_unused end
is_late (Calls number input side session) = is_late_side side
is_late (Awaits number service serving side) = true
is_late (Serves number service side session) = is_late_side side
is_late (CallIsOver number input done end) = is_late_done end
is_late (ServingIsOver number service outcome got end) = is_late_done end
is_late Taken = false

-- whether a session is open
abbrev pub is_session : Stage → Bool
is_session (Calls number input side session) = true
is_session (Awaits number service serving side) = true
is_session (Serves number service side session) = true
is_session _ = false

-- a caller, or a side that serves, that has read and sent nothing
pub record IsNewCaller (caller : CallerState) : Type 0 where
  pub chunk_is : caller.requests.chunk ≡ chunk
  pub undecided : caller.replies.outcome ≡ None
  pub nothing : caller.inbox.got ≡ []
  pub stands : CallerStandsFor caller []

pub record IsNewServing (serving : ServingState Builtin) : Type 0 where
  pub chunk_is : serving.answering.chunk ≡ chunk
  pub undecided : serving.answering.outcome ≡ None
  pub nothing : serving.inbox.got ≡ []

-- what holds of an end of an agent of this version
abbrev pub IsStage : ℕ → Stage → Type 0
IsStage version (Unused end) = IsUnused (fresh_view end)
IsStage version (Calls number input side session) =
    IsAtWork caller_half session.half session.end × (session.half.replies.own ≡ version) × StandsOn caller_half tt session.half session.end × (session.half.requests.input ≡ input.value.items)
IsStage version (Awaits number service serving side) =
    IsNewServing serving × (serving.answering.own ≡ version) × ServingStandsFor builtin_owes (builtin_owes service.value) serving []
IsStage version (Serves number service side session) =
    IsAtWork builtin_half session.half session.end × (session.half.answering.own ≡ version) × StandsOn builtin_half (builtin_owes service.value) session.half session.end
IsStage version (CallIsOver number input done end) = CallerOwes version input.value.items done (done_view end)
IsStage version (ServingIsOver number service outcome got end) =
    (name : List ℕ) → IsService name (builtin_owes service.value) → ServingOwes version name outcome got (done_view end)
IsStage version Taken = ⊥

-- an honest end was retired
abbrev pub WasRetired : EndView → Type 0
WasRetired end = (end.retired ≡ true) × (end.turned ≡ false)

-- the end is between two calls, or it was retired and not turned over
abbrev pub CanRetire : Stage → Type 0
CanRetire (Unused end) = (fresh_view end).idle ≡ true
CanRetire (Calls number input side session) = IsOpen session.end × IsSideOf side (view session.end)
CanRetire (Awaits number service serving side) = Unit {0}
CanRetire (Serves number service side session) = ((view session.end).idle ≡ true) × IsSideOf side (view session.end)
CanRetire (CallIsOver number input done end) = WasRetired (done_view end)
CanRetire (ServingIsOver number service outcome got end) = WasRetired (done_view end)
CanRetire Taken = ⊥

-- an end of this role that has done nothing yet
abbrev pub IsUnusedBy : Role → Stage → Type 0
IsUnusedBy role (Unused end) = IsUnused (fresh_view end) × ((fresh_view end).role ≡ role)
IsUnusedBy role _ = ⊥

-- the page of an unused end is laid, if that is the end's part
abbrev pub HasPage : Stage → Option LaidPage → Type 0
HasPage (Unused end) laid = HasLaid end laid
HasPage _ laid = Unit {0}

-- a session is open, and its two parts agree
abbrev pub CanTurn : Stage → Type 0
CanTurn (Calls number input side session) = IsAtWork caller_half session.half session.end
CanTurn (Awaits number service serving side) = IsNewServing serving
CanTurn (Serves number service side session) = IsAtWork builtin_half session.half session.end
CanTurn _ = ⊥

-- a session that ended like this can be finished
abbrev pub HasComeOut : Outcome → Stage → Type 0
HasComeOut outcome (Calls number input side session) = IsAtWork caller_half session.half session.end × (session.half.replies.outcome ≡ Some outcome)
HasComeOut outcome (Serves number service side session) = IsAtWork builtin_half session.half session.end × (session.half.answering.outcome ≡ Some outcome)
HasComeOut outcome _ = ⊥

-- what the broker is told of a session at this place, once it is over
abbrev pub told_of : PagePlace → Use → Option SessionEnd
told_of (Payload from to port) (ForCall number input) = Some (record { domain = to; port = port; call = Some number })
told_of (Payload from to port) (ForServing number service) = Some (record { domain = from; port = port; call = None })
told_of place used = None

-- a report is that of an end at this place, with this use and this view
abbrev pub IsReportOf : ℕ → PagePlace → Use → EndView → SessionDone → Type 0
IsReportOf version place ForNothing end report = Unit {0}
IsReportOf version (Payload from to port) (ForCall number input) end (Call n over) =
    (n ≡ number) × (over.to ≡ to) × (over.port ≡ port) × CallerOwes version input over.done end
IsReportOf version (Payload from to port) (ForServing number service) end (Serving n done) =
    (n ≡ number) × (done.from ≡ from) × (done.port ≡ port) × ((name : List ℕ) → IsService name (builtin_owes service) → ServingOwes version name done.outcome done.got end)
IsReportOf version place used end report = ⊥

-- ---- with its place

-- what no turn changes of an end: which it is, what it is used for, and whether its page is laid when it is first used
pub record Frame : Type 0 where
  pub held : Held
  pub used : Use
  pub late : Bool

abbrev pub place_of : Slot → PagePlace
place_of s = Payload s.from s.to s.port

abbrev pub framed : PagePlace → Stage → Frame
framed place stage = record { held = held_of place (end_of stage); used = use_of stage; late = is_late stage }

abbrev pub frame_of : Slot → Frame
frame_of s = framed (place_of s) s.stage
