-- What is dealt to the tasks of a run, and in which order.
-- Source: this project's own.
use Rattle.std.specs.Prelude.{◌≡◌, ◌≢◌, ◌⊎◌, ℕ, suc, ◌+◌, ◌<◌, ◌≤◌, ◌==◌, false, List, [], ◌∷◌, ◌++◌, length, map, slice_get, Some, if◌then◌else◌}
use Rattle.std.specs.List.{AllByRecursion as Each}
use Rattle.ring_words.specs.declared.page.Role.TheVariants.{Server, Client}
use Rattle.ring_words.specs.declared.order.Orders.{Orders}
use Rattle.end_view.specs.EndView.{EndView}
use Rattle.vchan_rule.specs.Seated.{SeatedEnd, view}
use Rattle.scenario_file.specs.Scenario.{Plan as Scenario, hostile_at}
use Rattle.task_duties.specs.declared.ends.DataEnd.{DataEnd}
use Rattle.task_duties.specs.declared.ends.UnusedEnd.{UnusedEnd}
use Rattle.task_duties.specs.declared.ends.UnusedEnd.TheVariants as unused
use Rattle.task_duties.specs.declared.place.PagePlace.{PagePlace}
use Rattle.task_duties.specs.declared.place.PagePlace.TheVariants.{Control, Payload}
use Rattle.task_duties.specs.TaskOwes.{EndAt, all_ends, broker_ends}
use Rattle.task_duties.specs.GivenEnds.{all_given}
use Rattle.run_pages.specs.declared.deal.Hand.{Hand}
use Rattle.run_pages.specs.declared.lay.PageSeats.{PageSeats}
use Rattle.run_pages.specs.Pages.{PageAt, HasSeats, new_end, new_ends}

-- ---- what is dealt

-- the ends in the hand of a domain: that of its control page, then its data ends
abbrev pub hand_ends : ℕ → Hand → List EndAt
hand_ends domain hand = all_ends domain (view hand.control) (all_given hand.payload.items)

-- the broker has the new ends of the control pages
abbrev pub ControlsDealt : List PageAt → List SeatedEnd → Type 0
ControlsDealt pages controls = broker_ends 1 (map view controls) ≡ new_ends pages 0

-- the hands are those of the domains from 1 on, and each has the new ends of its domain
abbrev pub HandsDealt : List PageAt → List Hand → Type 0
HandsDealt pages hands = (k : ℕ) (hand : Hand) → slice_get hands k ≡ Some hand → hand_ends (k + 1) hand ≡ new_ends pages (k + 1)

-- a data end fits a domain: its page is laid with the orders of a data page, or is offered, and then the domain isn't hostile
abbrev pub FitsDomain : Scenario → ℕ → UnusedEnd → Type 0
FitsDomain s domain (unused.Laid end) = end.side.orders ≡ s.payload
FitsDomain s domain (unused.Server side) = hostile_at s domain ≡ false
FitsDomain s domain (unused.Client side) = hostile_at s domain ≡ false

-- the ends of a domain's hand have the orders of a control page and of a data page, or fit the domain
pub record HasOrders (s : Scenario) (domain : ℕ) (hand : Hand) : Type 0 where
  pub of_control : hand.control.side.orders ≡ s.control
  pub of_payload : Each (λ e. FitsDomain s domain e.end) hand.payload.items

abbrev pub HaveOrders : Scenario → List Hand → Type 0
HaveOrders s hands = (k : ℕ) (hand : Hand) → slice_get hands k ≡ Some hand → HasOrders s (k + 1) hand

-- a data end of a page that is laid with these orders
pub record IsLaidWith (orders : Orders) (e : DataEnd) : Type 0 where
  pub end : SeatedEnd
  pub is : e.end ≡ unused.Laid end
  pub orders_are : end.side.orders ≡ orders

-- these are the ends of a page at a place
pub record AreEndsOf (p : PageAt) (place : PagePlace) (server client : EndView) : Type 0 where
  pub at : p.place ≡ place
  pub server_is : server ≡ (new_end p Server).view
  pub client_is : client ≡ (new_end p Client).view

-- ---- in which order

-- after the control pages of the first `count` domains these places follow: the control pages of the next domains, in order, and data pages
-- between domains whose control pages came before
abbrev pub Follows : ℕ → List PagePlace → Type 0
Follows count [] = Unit {0}
Follows count (Control domain ∷ places) = (domain ≡ count + 1) × Follows (count + 1) places
Follows count (Payload from to port ∷ places) = (from ≢ to) × (1 ≤ from) × (from ≤ count) × (1 ≤ to) × (to ≤ count) × Follows count places

-- how many of these pages are control pages
abbrev pub controls_in : List PagePlace → ℕ
controls_in [] = 0
controls_in (Control domain ∷ places) = suc (controls_in places)
controls_in (Payload from to port ∷ places) = controls_in places

-- these pages were dealt, and no other page has an end yet
pub record AreDealt (pages : List PageAt) (controls : List SeatedEnd) (hands : List Hand) : Type 0 where
  pub controls_are : ControlsDealt pages controls
  pub hands_are : HandsDealt pages hands
  pub as_many : length controls ≡ length hands
  pub beyond : (number : ℕ) → length hands < number → new_ends pages number ≡ []

-- how many hands there are after a page at this place is dealt
abbrev pub hands_after : PagePlace → ℕ → ℕ
hands_after (Control domain) count = count + 1
hands_after (Payload from to port) count = count

-- a hand with this control end alone comes after the others
pub record AddsHand (control : SeatedEnd) (old new : List Hand) : Type 0 where
  pub count : length new ≡ length old + 1
  pub each : (k : ℕ) (hand : Hand) → slice_get new k ≡ Some hand
      → (slice_get old k ≡ Some hand) ⊎ ((k ≡ length old) × (hand.control ≡ control) × (hand.payload.items ≡ []))

-- the domain of this number gets a data end
pub record Gives (number : ℕ) (end : EndAt) (old new : List Hand) : Type 0 where
  pub count : length new ≡ length old
  pub each : (k : ℕ) (hand : Hand) → slice_get new k ≡ Some hand
      → (before : Hand) × (slice_get old k ≡ Some before) × (hand_ends (k + 1) hand ≡ hand_ends (k + 1) before ++ (if k + 1 == number then end ∷ [] else []))

-- while pages are dealt: those before were dealt, those left follow and have these seats, and there will be `all` hands in the end
pub record IsDealing (before left : List PageAt) (seats : List PageSeats) (controls : List SeatedEnd) (hands : List Hand) (all : ℕ) : Type 0 where
  pub dealt : AreDealt before controls hands
  pub follows : Follows (length hands) (map (λ p. p.place) left)
  pub seated : HasSeats left seats
  pub count : length hands + controls_in (map (λ p. p.place) left) ≡ all
