-- The words with which pages begin, and what is made by them.
-- Source: this project's own.
use Rattle.std.specs.Prelude.{◌≡◌}
use Rattle.scenario_file.specs.Scenario.{Plan as Scenario}
use Rattle.task_duties.specs.declared.place.PagePlace.{PagePlace}
use Rattle.run_pages.specs.declared.lay.RunPage.{RunPage}
use Rattle.run_pages.specs.declared.lay.PageSeats.{PageSeats}
use Rattle.run_pages.specs.declared.starts.RunStarts.{RunStarts}
use Rattle.run_pages.specs.Pages.{AreSeatsOf, IsLaidFor, page_at}

-- the start words of the control pages and the data pages of a scenario
pub record AreStartsOf (s : Scenario) (r : RunStarts) : Type 0 where
  pub control : (r.control.orders ≡ s.control) × (r.control.start ≡ s.start)
  pub payload : (r.payload.orders ≡ s.payload) × (r.payload.start ≡ s.start)

-- the page at this place was made, with its seats or sides
pub record IsMadeFor (s : Scenario) (place : PagePlace) (page : RunPage) (seats : PageSeats) : Type 0 where
  pub at : (page_at page).place ≡ place
  pub laid : IsLaidFor s (page_at page)
  pub seated : AreSeatsOf (page_at page) seats
