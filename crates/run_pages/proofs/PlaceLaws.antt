-- What is dealt lies where the tasks of a scenario must have their ends.
use Rattle.std.proofs.Common.{◌≡◌, ℕ, ◌+◌, ◌≤◌, List, [], ◌∷◌, map, length, refl, ap, sym, ◌∙◌, arith}
use Rattle.std.specs.Prelude.{◌==◌, ◌||◌, Bool, true, false, filter}
use Rattle.std.proofs.lemmas.Bool.{ne_eqb}
use Rattle.end_view.specs.EndView.{EndView}
use Rattle.scenario_file.specs.Scenario.{Plan as Scenario}
use Rattle.task_duties.specs.declared.place.PagePlace.{PagePlace}
use Rattle.task_duties.specs.declared.place.PagePlace.TheVariants.{Control, Payload}
use Rattle.task_duties.specs.Places.{numbers}
use Rattle.task_duties.specs.TaskOwes.{places_in, broker_ends}
use Rattle.run_laws.specs.Laid.{is_end_of, laid, places_of, server_of, client_of}
use Rattle.run_pages.specs.Pages.{PageAt, AreLaid, new_ends}

-- a domain has an end of a page if it is the server or the client there
is_end : (d : ℕ) (place : PagePlace) → 1 ≤ d → is_end_of d place ≡ (server_of place == d || client_of place == d)
is_end d (Control domain) some = by (domain == d)
  where
    none : (0 == d) ≡ false
    none = ne_eqb 0 d (λ z. absurd (omega (arith, z, some)))

    by : (b : Bool) → b ≡ (b || (0 == d))
    by true = refl
    by false = sym none
is_end d (Payload from to port) some = refl

-- an end of a domain on a page, and then its ends on the others
place_on : (d : ℕ) (p : PageAt) (pages : List PageAt) → 1 ≤ d → places_in (new_ends pages d) ≡ filter (is_end_of d) (map (λ p. p.place) pages)
    → places_in (new_ends (p ∷ pages) d) ≡ filter (is_end_of d) (map (λ p. p.place) (p ∷ pages))
place_on d p pages some rest = by (server_of p.place == d) refl (client_of p.place == d) refl
  where
    has : (b : Bool) → (server_of p.place == d || client_of p.place == d) ≡ b → is_end_of d p.place ≡ b
    has b e = is_end d p.place some ∙ e

    by : (a : Bool) → (server_of p.place == d) ≡ a → (b : Bool) → (client_of p.place == d) ≡ b
        → places_in (new_ends (p ∷ pages) d) ≡ filter (is_end_of d) (map (λ p. p.place) (p ∷ pages))
    by true x b y = rw (has true (rw x refl)) (rw x (ap (λ l. p.place ∷ l) rest))
    by false x true y = rw (has true (rw x (rw y refl))) (rw x (rw y (ap (λ l. p.place ∷ l) rest)))
    by false x false y = rw (has false (rw x (rw y refl))) (rw x (rw y rest))

pub places_dealt : (s : Scenario) (pages : List PageAt) (d : ℕ) → 1 ≤ d → AreLaid s pages → places_in (new_ends pages d) ≡ places_of s d
places_dealt s pages d some laid = all pages ∙ ap (filter (is_end_of d)) laid.places
  where
    all : (pages : List PageAt) → places_in (new_ends pages d) ≡ filter (is_end_of d) (map (λ p. p.place) pages)
    all [] = refl
    all (p ∷ pages) = place_on d p pages some (all pages)

-- the broker's ends lie on the control pages of all domains
pub broker_places : (from : ℕ) (views : List EndView) → places_in (broker_ends from views) ≡ map Control (numbers from 1 (length views))
broker_places from [] = refl
broker_places from (v ∷ views) = ap (λ l. Control from ∷ l) (broker_places (from + 1) views)
