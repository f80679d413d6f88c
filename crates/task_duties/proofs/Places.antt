-- Places of pages, the numbers of domains, and the ends at places.
use Rattle.std.proofs.Common.{◌≡◌, refl, arith, ℕ, List, [], ◌∷◌, ◌+◌, suc, zero, ◌++◌, ap, ◌∙◌, length}
use Rattle.std.specs.Prelude.{true, ◌==◌, false}
use Rattle.std.proofs.lemmas.Bool.Decides.{nat_tests}
use Rattle.std.specs.List.{AllByRecursion as Each}
use Rattle.task_duties.specs.declared.place.PagePlace.{PagePlace}
use Rattle.task_duties.specs.declared.place.PagePlace.TheVariants.{Control, Payload}
use Rattle.task_duties.specs.Places.{is_place, numbers}
use Rattle.task_duties.specs.declared.ends.DataEnd.{DataEnd}
use Rattle.task_duties.specs.TaskOwes.{places_in}
use Rattle.task_duties.specs.GivenEnds.{all_given}

pub same_self : (place : PagePlace) → is_place place place ≡ true
same_self (Control d) = grind (arith, nat_tests)
same_self (Payload f t p) =
    let a : (f == f) ≡ true = grind (arith, nat_tests) in let b : (t == t) ≡ true = grind (arith, nat_tests) in let c : (p == p) ≡ true = grind (arith, nat_tests) in
    rw (a, b, c) refl

pub no_control : (d : ℕ) (ends : List DataEnd) → Each (λ q. is_place (Control d) q ≡ false) (places_in (all_given ends))
no_control d [] = tt
no_control d (e ∷ ends) = (refl, no_control d ends)

pub numbers_more : (from n : ℕ) → numbers from 1 (suc n) ≡ numbers from 1 n ++ (from + n) ∷ []
numbers_more from zero = let e : from ≡ from + 0 = omega arith in ap (λ (k : ℕ). k ∷ []) e
numbers_more from (suc n) =
    let e : from + 1 + n ≡ from + suc n = omega arith in
    ap (λ (r : List ℕ). from ∷ r) (numbers_more (from + 1) n ∙ ap (λ (k : ℕ). numbers (from + 1) 1 n ++ k ∷ []) e)

pub length_numbers : (from by count : ℕ) → length (numbers from by count) ≡ count
length_numbers from by zero = refl
length_numbers from by (suc count) = let e = length_numbers (from + by) by count in omega (arith, e)
