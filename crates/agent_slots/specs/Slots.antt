-- The data ends of an agent, as contracts see them.
-- Source: this project's own.
use Rattle.std.specs.Prelude.{◌≡◌, ◌≢◌, ℕ, Bool, List, Option, Some, None, count_by, slice_get}
use Rattle.atomic_table.specs.Seated.{TableId}
use Rattle.ring_words.specs.declared.page.Role.{Role}
use Rattle.ring_words.specs.declared.page.Role.TheVariants.{Server, Client}
use Rattle.service_gate.specs.declared.builtin.Builtin.{Builtin}
use Rattle.end_view.specs.EndView.{EndView, IsUnused}
use Rattle.task_duties.specs.declared.place.PagePlace.{PagePlace}
use Rattle.task_duties.specs.declared.place.PagePlace.TheVariants.{Control, Payload}
use Rattle.task_duties.specs.declared.done.SessionEnd.{SessionEnd}
use Rattle.task_duties.specs.TaskOwes.{EndAt}
use Rattle.task_duties.specs.Places.{has_place}
use Rattle.agent_slots.specs.Sessions.{Session}

-- what stays the same of an end: its place, and which end of which page it is
pub record Held : Type 0 where
  pub place : PagePlace
  pub page : TableId
  pub role : Role

abbrev pub held_of : PagePlace → EndView → Held
held_of place view = record { place = place; page = view.page; role = view.role }

abbrev pub held_at : EndAt → Held
held_at e = held_of e.place e.view

-- a call of the agent's own that has a session: which domain it calls, at which port, and with which input
pub record Called : Type 0 where
  pub to : ℕ
  pub port : ℕ
  pub input : List ℕ

-- a call that the agent serves
pub record Serves : Type 0 where
  pub from : ℕ
  pub port : ℕ
  pub service : Builtin

-- all data ends of an agent
pub record SlotsState : Type 0 where
  pub domain : ℕ
  pub version : ℕ
  -- the ends, and the places of those that are still unused, each in the order in which the ends were given
  pub held : List Held
  pub unused : List PagePlace
  -- where the ends lie whose pages are laid when they are first used
  pub late : List PagePlace
  -- the session of each of the agent's own calls, if it has one
  pub called : List (Option Called)
  -- what it serves, in the order in which that began
  pub served : List Serves
  -- the sessions that are open, each as it is told once it is over, in no order that matters
  pub opened : List SessionEnd
  -- the session of each end, in the order in which the ends were given
  pub sessions : List Session
  -- memory didn't suffice for a turn, and the ends can only be given up
  pub spent : Bool

-- where the page of a session lies, of a call of the agent's own or of one that it serves
abbrev pub place_at : ℕ → Option ℕ → ℕ → ℕ → PagePlace
place_at own (Some number) domain port = Payload own domain port
place_at own None domain port = Payload domain own port

-- how many open sessions are on pages that are laid when they are first used
abbrev pub late_count : SlotsState → ℕ
late_count s = count_by (λ o. has_place (place_at s.domain o.call o.domain o.port) s.late) s.opened

-- ---- what is given

-- an end of a domain: a server's if the domain calls, a client's if it is called
abbrev pub IsEndOf : ℕ → PagePlace → Role → Type 0
IsEndOf domain (Control d) role = ⊥
IsEndOf domain (Payload from to port) Server = (from ≡ domain) × (to ≢ domain)
IsEndOf domain (Payload from to port) Client = (to ≡ domain) × (from ≢ domain)

-- an unused end of the domain
pub record IsGiven (domain : ℕ) (e : EndAt) : Type 0 where
  pub of_domain : IsEndOf domain e.place e.view.role
  pub unused : IsUnused e.view

-- no two ends lie at the same place
abbrev pub AreApart : List PagePlace → Type 0
AreApart places = (i j : ℕ) (p : PagePlace) → slice_get places i ≡ Some p → slice_get places j ≡ Some p → i ≡ j
