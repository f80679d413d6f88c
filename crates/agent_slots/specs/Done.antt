-- What is given back of data ends that are done with.
-- Source: this project's own.
use Rattle.std.specs.Prelude.{◌≡◌, ℕ, false, List, ◌∷◌, ◌++◌, map, Option, Some, None, slice_get, IsPermutation}
use Rattle.std.specs.List.{AllByRecursion as Each}
use Rattle.list_laws.specs.Lists.{SomeOf}
use Rattle.service_gate.specs.Owing.{builtin_owes}
use Rattle.end_view.specs.EndView.{EndView}
use Rattle.task_duties.specs.declared.place.PagePlace.{PagePlace}
use Rattle.task_duties.specs.declared.place.PagePlace.TheVariants.{Payload}
use Rattle.task_duties.specs.declared.done.ServedDone.{ServedDone}
use Rattle.task_duties.specs.declared.done.SessionEnd.{SessionEnd}
use Rattle.task_duties.specs.TaskOwes.{EndAt}
use Rattle.task_duties.specs.Agent.Sessions.{CallerOwes, IsService, ServingOwes}
use Rattle.agent_slots.specs.declared.done.CallOver.{CallOver}
use Rattle.agent_slots.specs.Slots.{Held, held_at, Called, Serves, SlotsState}

-- ends that are given back: one that was retired before, and behind it those that were held, in their order, none of which is turned over
pub record AreBack (first : EndAt) (held : List Held) (ends : List EndAt) : Type 0 where
  pub rest : List EndAt
  pub are : ends ≡ first ∷ rest
  pub held_are : map held_at rest ≡ held
  pub honest : Each (λ e. e.view.turned ≡ false) rest

-- P holds of some end at this place
abbrev pub HasEnd : List EndAt → PagePlace → (EndView → Type 0) → Type 0
HasEnd ends place P = SomeOf (λ e. (e.place ≡ place) × P e.view) ends

-- a call that has a session reports it, and owes what the end at its place owes; any other call reports nothing
abbrev pub ReportsCalled : ℕ → ℕ → List EndAt → Option Called → Option CallOver → Type 0
ReportsCalled domain version ends None None = Unit {0}
ReportsCalled domain version ends (Some c) (Some over) =
    (over.to ≡ c.to) × (over.port ≡ c.port) × HasEnd ends (Payload domain c.to c.port) (CallerOwes version c.input over.done)
ReportsCalled domain version ends _ _ = ⊥

-- what was served does so too, under any service name
abbrev pub ReportsServes : ℕ → ℕ → List EndAt → Serves → ServedDone → Type 0
ReportsServes domain version ends s done =
    (done.from ≡ s.from) × (done.port ≡ s.port)
    × HasEnd ends (Payload s.from domain s.port) (λ view. (name : List ℕ) → IsService name (builtin_owes s.service) → ServingOwes version name done.outcome done.got view)

-- a session that is reported over is one that was begun: of a call of the agent's own, by its number, or of what it serves
abbrev pub IsBegun : SlotsState → Option ℕ → ℕ → ℕ → Type 0
IsBegun s (Some number) domain port = (c : Called) × (slice_get s.called number ≡ Some (Some c)) × (c.to ≡ domain) × (c.port ≡ port)
IsBegun s None domain port = SomeOf (λ x. (x.from ≡ domain) × (x.port ≡ port)) s.served

abbrev pub IsToldOver : SlotsState → SessionEnd → Type 0
IsToldOver s over = IsBegun s over.call over.domain over.port

-- sessions that are reported over come after those before: exactly those that were open and no longer are, each once
abbrev pub TellsMore : SlotsState → SlotsState → List SessionEnd → List SessionEnd → Type 0
TellsMore old new before now = (told : List SessionEnd) × (now ≡ before ++ told) × IsPermutation (told ++ new.opened) old.opened × Each (IsToldOver old) told
