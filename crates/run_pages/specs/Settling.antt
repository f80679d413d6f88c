-- What the tasks of a run give back, and the pages that are settled by it.
-- Source: this project's own.
use Rattle.std.specs.Prelude.{◌≡◌, ℕ, ◌<◌, ◌==◌, List, [], ◌∷◌, ◌++◌, length, map, reverse, slice_get, slice_index_or, Some, Contains, if◌then◌else◌}
use Rattle.std.specs.List.{AllByRecursion as Each, AllZip as EachPair}
use Rattle.end_view.specs.EndView.{EndView}
use Rattle.end_view.specs.Settled.{IsSettled}
use Rattle.scenario_file.specs.Scenario.{Plan as Scenario}
use Rattle.task_duties.specs.declared.place.PagePlace.{PagePlace}
use Rattle.task_duties.specs.TaskOwes.{EndAt, IsSameEnd}
use Rattle.vchan_rule.specs.Seated.{PageStart, began_with, words_of}
use Rattle.run_laws.specs.Laid.{BeganAsSaid, server_of, client_of}
use Rattle.run_laws.specs.Report.{SettledPage}
use Rattle.run_pages.specs.Pages.{PageAt, IsLaidFor, new_ends}
use Rattle.run_pages.specs.Dealt.{Follows, controls_in}

-- each task gives back the ends that it was dealt, in order: the broker's task first, and then those of the domains
abbrev pub HandsBack : List PageAt → List (List EndAt) → Type 0
HandsBack pages hands = (k : ℕ) (hand : List EndAt) → slice_get hands k ≡ Some hand → EachPair IsSameEnd (new_ends pages k) hand

-- the task of this number gives up its last end
pub record GivesUp (number : ℕ) (end : EndAt) (old new : List (List EndAt)) : Type 0 where
  pub count : length new ≡ length old
  pub each : (k : ℕ) (hand : List EndAt) → slice_get new k ≡ Some hand → slice_get old k ≡ Some (hand ++ (if k == number then end ∷ [] else []))

-- the two tasks of a page give up their last ends: the server's, and the client's
abbrev pub GivesUpBoth : PagePlace → EndAt → EndAt → List (List EndAt) → List (List EndAt) → Type 0
GivesUpBoth place server client old new =
    (between : List (List EndAt)) × GivesUp (server_of place) server old between × GivesUp (client_of place) client between new

-- the task of this number has an end left
abbrev pub HasEnd : ℕ → List (List EndAt) → Type 0
HasEnd number hands = (rest : List EndAt) × (end : EndAt) × (slice_get hands number ≡ Some (rest ++ end ∷ []))

-- the ends that the task of a number gave back
abbrev pub hand_of : List (List EndAt) → ℕ → List EndAt
hand_of hands number = slice_index_or hands number []

-- a page is settled by two ends that were given back
pub record IsSettledBy (s : Scenario) (hands : List (List EndAt)) (page : SettledPage) : Type 0 where
  pub settled : IsSettled page.settled
  pub begun : BeganAsSaid s page.place page.settled
  pub server : Contains (hand_of hands (server_of page.place)) (record { place = page.place; view = page.settled.server })
  pub client : Contains (hand_of hands (client_of page.place)) (record { place = page.place; view = page.settled.client })

-- a page that began with these words was settled by two ends with these views
pub record IsSettledAs (place : PagePlace) (words : PageStart) (server client : EndView) (page : SettledPage) : Type 0 where
  pub place_is : page.place ≡ place
  pub words_are : began_with page.settled ≡ words
  pub server_is : page.settled.server ≡ server
  pub client_is : page.settled.client ≡ client
  pub settled : IsSettled page.settled

abbrev pub IsJoinedBy : PageAt → EndAt → EndAt → SettledPage → Type 0
IsJoinedBy p server client page = IsSettledAs p.place (words_of p.page) server.view client.view page

-- all pages are settled, in order
pub record AreSettledBy (s : Scenario) (pages : List PageAt) (hands : List (List EndAt)) (settled : List SettledPage) : Type 0 where
  pub places : map (λ p. p.place) settled ≡ map (λ p. p.place) pages
  pub each : Each (IsSettledBy s hands) settled

-- while pages are settled: these pages are left, with the ends that the tasks still have of those that they gave back at first; the others
-- are settled, the last one first
pub record IsSettling (s : Scenario) (left all : List PageAt) (hands first : List (List EndAt)) (settled : List SettledPage) : Type 0 where
  pub follows : Follows 0 (map (λ p. p.place) left)
  pub laid : Each (IsLaidFor s) left
  pub many : controls_in (map (λ p. p.place) left) < length hands
  pub back : HandsBack left hands
  pub within : (k : ℕ) (hand : List EndAt) → slice_get hands k ≡ Some hand → (taken : List EndAt) × (slice_get first k ≡ Some (hand ++ taken))
  pub places : map (λ p. p.place) left ++ reverse (map (λ p. p.place) settled) ≡ map (λ p. p.place) all
  pub each : Each (IsSettledBy s first) settled
