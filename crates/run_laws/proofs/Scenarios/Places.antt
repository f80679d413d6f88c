-- The ends that an agent is given: those of the pages of its domain.
use Rattle.std.proofs.Common.{◌≡◌, ℕ, ◌+◌, ◌-◌, ◌*◌, ◌<◌, suc, zero, List, [], ◌∷◌, length, map, refl, ap, ◌∙◌, arith, inl, inr}
use Rattle.std.specs.Prelude.{true, false, Bool, ◌==◌, ◌||◌, is_some}
use Rattle.std.specs.List.{flat_map}
use Rattle.call_broker.specs.Domains.{first_port}
use Rattle.scenario_file.specs.Scenario.{Plan as Scenario, domain_of}
use Rattle.task_duties.specs.declared.place.PagePlace.{PagePlace}
use Rattle.task_duties.specs.declared.place.PagePlace.TheVariants.{Control, Payload}
use Rattle.task_duties.specs.Places.{numbers, is_place, has_place}
use Rattle.task_duties.proofs.Elements.{Has, has_map_back, has_filter_back, has_flat_map_back, has_right}
use Rattle.task_duties.proofs.Places.{same_self}
use Rattle.run_laws.specs.Laid.{all_domains, pages_between, ports_between, laid_between, laid, is_end_of, places_of, is_data, agent_plan}
use Rattle.run_laws.specs.Run.{IsPlace}
use Rattle.run_laws.proofs.Scenarios.Numbers.{domain_is}

has_number : (from by count k n : ℕ) → k < count → n ≡ from + by * k → Has (numbers from by count) n
has_number from by zero k n less is = absurd (omega (arith, less))
has_number from by (suc count) zero n less is = inl (omega (arith, is))
has_number from by (suc count) (suc k) n less is = inr (has_number (from + by) by count k n (omega (arith, less)) (omega (arith, is)))

pub has_domain : (s : Scenario) (d : ℕ) → is_some (domain_of s d) ≡ true → Has (all_domains s) d
has_domain s d there = let within = domain_is s d there in has_number 1 1 (length s.domains) (d - 1) d (omega (arith, within)) (omega (arith, within))

pub is_laid : (s : Scenario) (f t port : ℕ) → IsPlace s (Payload f t port) → Has (laid s) (Payload f t port)
is_laid s f t port place =
    let k = place.3 in
    let port_is = k.2 in
    let here : Has (ports_between s f t) port = has_number (first_port f t) 2 (pages_between s f t) k.0 port k.1 port_is in
    has_right (map Control (all_domains s)) _ (Payload f t port)
    (has_flat_map_back (λ from. flat_map (laid_between s from) (all_domains s)) (all_domains s) f (Payload f t port) (has_domain s f place.1)
    (has_flat_map_back (laid_between s f) (all_domains s) t (Payload f t port) (has_domain s t place.2) (has_map_back (Payload f t) (ports_between s f t) port here)))

place_found : (place : PagePlace) (places : List PagePlace) → Has places place → has_place place places ≡ true
place_found place [] h = absurd h
place_found place (p ∷ places) (inl h) = let s = same_self place in let here : is_place place p ≡ true = ap (is_place place) h ∙ s in rw here refl
place_found place (p ∷ places) (inr h) = by_test (is_place place p) (place_found place places h)
  where
    by_test : (b : Bool) → has_place place places ≡ true → (b || has_place place places) ≡ true
    by_test true more = refl
    by_test false more = more

pub is_given : (s : Scenario) (d f t port : ℕ) → IsPlace s (Payload f t port) → (f == d || t == d) ≡ true → has_place (Payload f t port) (agent_plan s d).places ≡ true
is_given s d f t port place own =
    place_found (Payload f t port) (agent_plan s d).places
    (has_filter_back is_data (places_of s d) (Payload f t port) (has_filter_back (is_end_of d) (laid s) (Payload f t port) (is_laid s f t port place) own) refl)
