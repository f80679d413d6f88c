-- The routes of calls, and how many pages are laid for them.
use Rattle.std.proofs.Common.{◌≡◌, ℕ, ◌+◌, ◌≤◌, List, [], ◌∷◌, length, map, refl, ap, sym, ◌∙◌, arith}
use Rattle.std.specs.Prelude.{◌==◌, ◌&&◌, Bool, true, false, cond, filter, Some}
use Rattle.std.specs.List.{count_by}
use Rattle.std.proofs.lemmas.List.Sums.{count_by-le-length, length-filter, sum_by-cons}
use Rattle.std.proofs.lemmas.List.{length-map}
use Rattle.scenario_file.specs.Scenario.{Plan as Scenario, domain_of, hostile_at, is_hostile}
use Rattle.scenario_file.specs.declared.scenario.Domain.{Domain}
use Rattle.run_laws.specs.Laid.{calls_between, pages_between}
use Rattle.run_pages.specs.Routes.{route_of, routes_of, is_from, is_to}

-- one element more, when those after it are counted
count_more : {X Y : Type 0} (f : X → Y) (p q : Y → Bool) (x : X) (xs : List X) (b : Bool) → p (f x) ≡ b
    → count_by q (filter p (map f xs)) ≡ count_by (λ y. p (f y) && q (f y)) xs
    → count_by q (filter p (map f (x ∷ xs))) ≡ count_by (λ y. p (f y) && q (f y)) (x ∷ xs)
count_more f p q x xs true passes rest =
    let kept : filter p (map f (x ∷ xs)) ≡ f x ∷ filter p (map f xs) = rw passes refl in
    let both : (p (f x) && q (f x)) ≡ q (f x) = rw passes refl in
    ap (count_by q) kept ∙ sum_by-cons (λ y. cond (q y) 1 0) (f x) (filter p (map f xs)) ∙ ap (λ n. cond (q (f x)) 1 0 + n) rest
    ∙ sym (sum_by-cons (λ y. cond (p (f y) && q (f y)) 1 0) x xs ∙ ap (λ b. cond b 1 0 + count_by (λ y. p (f y) && q (f y)) xs) both)
count_more f p q x xs false fails rest =
    let kept : filter p (map f (x ∷ xs)) ≡ filter p (map f xs) = rw fails refl in
    let both : (p (f x) && q (f x)) ≡ false = rw fails refl in
    let none : 0 + count_by (λ y. p (f y) && q (f y)) xs ≡ count_by (λ y. p (f y) && q (f y)) xs = omega arith in
    ap (count_by q) kept ∙ rest
    ∙ sym (sum_by-cons (λ y. cond (p (f y) && q (f y)) 1 0) x xs ∙ ap (λ b. cond b 1 0 + count_by (λ y. p (f y) && q (f y)) xs) both ∙ none)

-- how many of those that pass one test pass another
count_kept : {X Y : Type 0} (f : X → Y) (p q : Y → Bool) (xs : List X) → count_by q (filter p (map f xs)) ≡ count_by (λ x. p (f x) && q (f x)) xs
count_kept f p q [] = refl
count_kept f p q (x ∷ xs) = count_more f p q x xs (p (f x)) refl (count_kept f p q xs)

-- as many of a domain's routes go to another as calls do
pub count_routes : (s : Scenario) (from to : ℕ) → count_by (is_to to) (filter (is_from from) (routes_of s)) ≡ calls_between s from to
count_routes s from to = count_kept (route_of s) (is_from from) (is_to to) s.calls

-- a domain has no more routes than there are calls
pub routes_within : (s : Scenario) (from : ℕ) → length (filter (is_from from) (routes_of s)) ≤ length s.calls
routes_within s from = omega (arith, length-filter (is_from from) (routes_of s), count_by-le-length (is_from from) (routes_of s), length-map s.calls (route_of s))

-- as many pages are laid for an honest caller as it has calls
pub between_calls : (s : Scenario) (from to : ℕ) → (from == to) ≡ false → hostile_at s from ≡ false → pages_between s from to ≡ calls_between s from to
between_calls s from to apart honest = rw apart (rw honest refl)

-- for a hostile caller there are as many pages as it has ports
pub between_ports : (s : Scenario) (from to : ℕ) (domain : Domain) → (from == to) ≡ false → domain_of s from ≡ Some domain → is_hostile domain ≡ true
    → pages_between s from to ≡ domain.ports
between_ports s from to domain apart is hostile = rw apart (rw is (rw hostile refl))

-- an honest domain isn't hostile by its number
pub honest_at : (s : Scenario) (number : ℕ) (domain : Domain) → domain_of s number ≡ Some domain → is_hostile domain ≡ false → hostile_at s number ≡ false
honest_at s number domain is honest = rw is honest
