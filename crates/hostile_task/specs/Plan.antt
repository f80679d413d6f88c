-- What the task of a hostile domain is given.
-- Source: this project's own.
use Rattle.std.specs.Prelude.{◌≡◌, ℕ, false, List, [], ◌∷◌}
use Rattle.std.specs.List.{AllByRecursion as Each}
use Rattle.ring_words.specs.declared.page.Role.TheVariants.{Server}
use Rattle.vchan_rule.specs.Seated.{SeatedEnd}
use Rattle.task_duties.specs.declared.place.PagePlace.{PagePlace}
use Rattle.task_duties.specs.declared.place.PagePlace.TheVariants.{Payload}
use Rattle.task_duties.specs.declared.ends.DataEnd.{DataEnd}
use Rattle.task_duties.specs.declared.ends.UnusedEnd.TheVariants.{Laid}
use Rattle.task_duties.specs.Hostile.Stores.{role_at}
use Rattle.task_duties.specs.Places.{is_place}
use Rattle.task_duties.specs.Hostile.Given.{HostilePlan}
use Rattle.task_duties.specs.TaskOwes.{EndAt}
use Rattle.hostile_task.specs.declared.domain.HostileDomain.{HostileDomain}

-- the plan of a domain whose pages lie at these places
abbrev pub plan_of : HostileDomain → List PagePlace → HostilePlan
plan_of d places = record { domain = d.number; names = d.names.items; acts = d.acts; control = d.control; payload = d.payload; places = places }

-- a task as contracts see it: its plan, its ends as they were given and as they are now, how many of its acts are done, and how many turns the next one has taken
pub record HostileState : Type 0 where
  pub plan : HostilePlan
  pub ends : List EndAt
  pub now : List EndAt
  pub acts : ℕ
  pub turns : ℕ

-- the end of a domain's control page
pub record IsControlOf (d : HostileDomain) (end : SeatedEnd) : Type 0 where
  pub role : end.side.role ≡ Server
  pub orders : end.side.orders ≡ d.control

-- an end of one of its data pages: the page is laid
pub record IsDataOf (d : HostileDomain) (data_end : DataEnd) : Type 0 where
  pub end : SeatedEnd
  pub laid : data_end.end ≡ Laid end
  pub role : end.side.role ≡ role_at d.number (Payload data_end.from data_end.to data_end.port)
  pub orders : end.side.orders ≡ d.payload

abbrev pub AreDataOf : HostileDomain → List DataEnd → Type 0
AreDataOf d ends = Each (IsDataOf d) ends

-- no two of the places are the same
abbrev pub AreApart : List PagePlace → Type 0
AreApart [] = Unit {0}
AreApart (place ∷ places) = Each (λ other. is_place place other ≡ false) places × AreApart places
