-- The pages of a hostile domain, and what its events leave of them.
-- Source: this project's own.
use Rattle.std.specs.Prelude.{◌≡◌, true, List, [], ◌∷◌, map}
use Rattle.vchan_protocol.specs.declared.op.PastEvent.{PastEvent}
use Rattle.vchan_rule.specs.Seated.{SeatedEnd, view, last_view}
use Rattle.end_view.specs.EndView.{view_of}
use Rattle.hostile_seat.specs.Hostile.{strays_along}
use Rattle.task_duties.specs.declared.place.PagePlace.{PagePlace}
use Rattle.task_duties.specs.declared.place.PagePlace.TheVariants.{Payload}
use Rattle.task_duties.specs.declared.ends.DataEnd.{DataEnd}
use Rattle.task_duties.specs.declared.ends.UnusedEnd.TheVariants.{Laid}
use Rattle.task_duties.specs.declared.ends.RetiredEnd.{RetiredEnd}
use Rattle.task_duties.specs.GivenEnds.{done_view}
use Rattle.task_duties.specs.TaskOwes.{EndAt, before_turned}
use Rattle.task_duties.specs.Hostile.Trail.{retiring}
use Rattle.hostile_task.specs.Saying.{side_after}
use Rattle.hostile_task.specs.declared.page.TurnedPage.{TurnedPage}
use Rattle.hostile_task.specs.declared.pages.Pages.{Pages}

-- ---- one page

-- a page whose end was just turned over
pub record IsTurnedOver (place : PagePlace) (given : SeatedEnd) (p : TurnedPage) : Type 0 where
  pub place_is : p.place ≡ place
  pub given_is : p.given.value ≡ given
  pub page : p.end.page ≡ given.page
  pub role : p.end.side.role ≡ given.side.role
  pub orders : p.end.side.orders ≡ given.side.orders
  pub turned : p.end.side.turned ≡ true
  pub trail : p.end.side.trail ≡ []
  pub before : before_turned (last_view p.end) ≡ before_turned (view given)

-- the same of the end of a data page, which is laid
pub record IsDataTurnedOver (d : DataEnd) (p : TurnedPage) : Type 0 where
  pub end : SeatedEnd
  pub laid : d.end ≡ Laid end
  pub over : IsTurnedOver (Payload d.from d.to d.port) end p

-- its page is laid
abbrev pub IsLaid : DataEnd → Type 0
IsLaid d = (end : SeatedEnd) × (d.end ≡ Laid end)

-- a page after these events of its hostile user
abbrev pub after_events : TurnedPage → List PastEvent → TurnedPage
after_events p events = record p { end = side_after p.end events }

-- a page whose end has retired
pub record IsRetiredOf (p : TurnedPage) (r : RetiredEnd) : Type 0 where
  pub place : r.place ≡ p.place
  pub view : done_view r.retired ≡ view_of p.end.page true (strays_along p.end.side (retiring p.end.side.role))

-- the end of a page as it was given
abbrev pub given_of : TurnedPage → EndAt
given_of p = record { place = p.place; view = view p.given.value }

-- and as it is now
abbrev pub now_of : TurnedPage → EndAt
now_of p = record { place = p.place; view = last_view p.end }

-- ---- all pages

-- where they lie, and their ends as they were given and as they are now
abbrev pub places_in : Pages → List PagePlace
places_in pages = pages.control.place ∷ map (λ p. p.place) pages.payload.items

abbrev pub given_in : Pages → List EndAt
given_in pages = map given_of (pages.control ∷ pages.payload.items)

abbrev pub now_in : Pages → List EndAt
now_in pages = map now_of (pages.control ∷ pages.payload.items)

-- each page after the events of its place
pub record AreAfter (events : PagePlace → List PastEvent) (old new : Pages) : Type 0 where
  pub control : new.control ≡ after_events old.control (events old.control.place)
  pub payload : new.payload.items ≡ map (λ p. after_events p (events p.place)) old.payload.items

-- the same pages, whatever was done on them
pub record AreSamePages (old new : Pages) : Type 0 where
  pub places : places_in new ≡ places_in old
  pub given : given_in new ≡ given_in old
