-- The pages of a run, and their ends before anything has happened.
-- Source: this project's own.
use Rattle.std.specs.Prelude.{◌≡◌, ℕ, ◌==◌, ◌&&◌, not, Bool, true, false, List, map, filter_map, Option, Some, None, if◌then◌else◌}
use Rattle.std.specs.List.{AllByRecursion as Each, AllZip as EachPair}
use Rattle.ring_words.specs.declared.page.Role.{Role}
use Rattle.ring_words.specs.declared.page.Role.TheVariants.{Server, Client}
use Rattle.vchan_protocol.specs.History.Core.{new_side}
use Rattle.end_view.specs.EndView.{view_of, state_at_first}
use Rattle.vchan_rule.specs.Seated.{PageView}
use Rattle.scenario_file.specs.Scenario.{Plan as Scenario, hostile_at}
use Rattle.task_duties.specs.declared.place.PagePlace.{PagePlace}
use Rattle.task_duties.specs.declared.place.PagePlace.TheVariants.{Control, Payload}
use Rattle.task_duties.specs.TaskOwes.{EndAt}
use Rattle.run_laws.specs.Laid.{orders_of, laid, server_of, client_of}
use Rattle.run_pages.specs.declared.lay.RunPage.{RunPage}
use Rattle.run_pages.specs.declared.lay.RunPage.TheVariants as page
use Rattle.run_pages.specs.declared.lay.PageSeats.{PageSeats}
use Rattle.run_pages.specs.declared.lay.PageSeats.TheVariants as seats

-- a page and its place; a page that is laid at its first use, and so is offered, has its name as its table
pub record PageAt : Type 0 where
  pub place : PagePlace
  pub page : PageView
  pub offered : Bool

abbrev pub page_at : RunPage → PageAt
page_at (page.Laid place page) = record { place = place; page = page; offered = false }
page_at (page.Offered o) = record {
  place = Payload o.from o.to o.port;
  page = record { table = o.client.value; orders = o.orders; start = o.start };
  offered = true;
}

-- whether the data pages between two domains are offered: neither of them is hostile
abbrev pub are_offered : Scenario → ℕ → ℕ → Bool
are_offered s from to = not (hostile_at s from) && not (hostile_at s to)

abbrev pub is_offered : Scenario → PagePlace → Bool
is_offered s (Control domain) = false
is_offered s (Payload from to port) = are_offered s from to

-- a page has the orders of its place and the first index of the scenario, and is offered if pages at its place are
pub record IsLaidFor (s : Scenario) (p : PageAt) : Type 0 where
  pub orders : p.page.orders ≡ orders_of s p.place
  pub start : p.page.start ≡ s.start
  pub when : p.offered ≡ is_offered s p.place

-- these are the pages that are laid for a scenario
pub record AreLaid (s : Scenario) (pages : List PageAt) : Type 0 where
  pub places : map (λ p. p.place) pages ≡ laid s
  pub each : Each (IsLaidFor s) pages

-- the seats of a page that is laid, or the sides of one that is offered
abbrev pub AreSeatsOf : PageAt → PageSeats → Type 0
AreSeatsOf p (seats.Laid server client) =
    (p.offered ≡ false) × (server ≡ record { page = p.page; role = Server }) × (client ≡ record { page = p.page; role = Client })
AreSeatsOf p (seats.Offered server client) = (p.offered ≡ true) × (server ≡ p.page) × (client ≡ p.page.table)

abbrev pub HasSeats : List PageAt → List PageSeats → Type 0
HasSeats pages seats = EachPair AreSeatsOf pages seats

-- ---- their ends

-- an end of a page on which nothing has happened
abbrev pub new_end : PageAt → Role → EndAt
new_end p role = record { place = p.place; view = view_of p.page.table true (new_side role p.page.orders p.page.start (state_at_first role)) }

-- the end that a domain has on a page, or the broker, whose number is 0
abbrev pub end_on : ℕ → PageAt → Option EndAt
end_on number p =
    if server_of p.place == number then Some (new_end p Server)
    else if client_of p.place == number then Some (new_end p Client)
    else None

-- all ends of a domain, in the order of the pages
abbrev pub new_ends : List PageAt → ℕ → List EndAt
new_ends pages number = filter_map (end_on number) pages

-- ---- while they are laid

-- the pages at these places are laid, and have these seats
pub record IsLaying (s : Scenario) (places : List PagePlace) (pages : List PageAt) (seats : List PageSeats) : Type 0 where
  pub at : map (λ p. p.place) pages ≡ places
  pub each : Each (IsLaidFor s) pages
  pub seated : HasSeats pages seats
