-- Sums over the views of all passes, when one of them changes.
use Rattle.std.proofs.Common.{◌≡◌, ◌≢◌, ℕ, zero, suc, ◌+◌, ◌≤◌, List, [], ◌∷◌, ◌++◌, length, set, refl, sym, ap, arith}
use mathlib.Core.Option.{some, some-injective, some-ne-none}
use lib.ListN.{get_elem?}
use Rattle.task_pool.specs.Rule.{total, below}

module _ {X : Type 0} (f : X → ℕ) where
  pub total_append : (xs ys : List X) → total f (xs ++ ys) ≡ total f xs + total f ys
  total_append [] ys = omega arith
  total_append (x ∷ xs) ys = omega (arith, total_append xs ys)

  -- the sum loses the old term and gains the new one
  pub total_set : (xs : List X) (i : ℕ) (v w : X) → get_elem? xs i ≡ some v → total f (set xs i w) + f v ≡ total f xs + f w
  total_set [] i v w at = absurd (some-ne-none v (sym at))
  total_set (x ∷ xs) zero v w at = let same : f x ≡ f v = ap f (some-injective x v at) in omega arith
  total_set (x ∷ xs) (suc i) v w at = omega (arith, total_set xs i v w at)

  -- a term is at most the sum
  pub term_le : (xs : List X) (i : ℕ) (v : X) → get_elem? xs i ≡ some v → f v ≤ total f xs
  term_le [] i v at = absurd (some-ne-none v (sym at))
  term_le (x ∷ xs) zero v at = let same : f x ≡ f v = ap f (some-injective x v at) in omega arith
  term_le (x ∷ xs) (suc i) v at = omega (arith, term_le xs i v at)

  -- two terms are at most the sum
  pub two_terms_le : (xs : List X) (i j : ℕ) (v u : X) → get_elem? xs i ≡ some v → get_elem? xs j ≡ some u → j ≢ i → f v + f u ≤ total f xs
  two_terms_le [] i j v u at at' apart = absurd (some-ne-none v (sym at))
  two_terms_le (x ∷ xs) zero zero v u at at' apart = absurd (apart refl)
  two_terms_le (x ∷ xs) zero (suc j) v u at at' apart =
      let same : f x ≡ f v = ap f (some-injective x v at) in let le = term_le xs j u at' in omega arith
  two_terms_le (x ∷ xs) (suc i) zero v u at at' apart =
      let same : f x ≡ f u = ap f (some-injective x u at') in let le = term_le xs i v at in omega arith
  two_terms_le (x ∷ xs) (suc i) (suc j) v u at at' apart =
      let le = two_terms_le xs i j v u at at' (λ e. apart (ap suc e)) in omega arith

  -- a sum of nothing but zeros
  total_zeros : (xs : List X) → ((i : ℕ) (u : X) → get_elem? xs i ≡ some u → f u ≡ 0) → total f xs ≡ 0
  total_zeros [] none = refl
  total_zeros (x ∷ xs) none = let here = none 0 x refl in let rest = total_zeros xs (λ i u at. none (suc i) u at) in omega arith

-- if one element has all parts, and what has no part weighs nothing, the sum is that element's
pub total_alone : {X : Type 0} (f p : X → ℕ) (xs : List X) (i : ℕ) (v : X) → ((j : ℕ) (u : X) → get_elem? xs j ≡ some u → p u ≡ 0 → f u ≡ 0)
    → get_elem? xs i ≡ some v → total p xs ≡ p v → total f xs ≡ f v
total_alone f p [] i v idle at all = absurd (some-ne-none v (sym at))
total_alone f p (x ∷ xs) zero v idle at all =
    let same : f x ≡ f v = ap f (some-injective x v at) in
    let parts : p x ≡ p v = ap p (some-injective x v at) in
    let rest : total f xs ≡ 0 = total_zeros f xs (λ j u there. idle (suc j) u there (let le = term_le p xs j u there in omega arith)) in
    omega arith
total_alone f p (x ∷ xs) (suc i) v idle at all =
    let le : p v ≤ total p xs = term_le p xs i v at in
    let here : f x ≡ 0 = idle 0 x refl (omega arith) in
    let rest = total_alone f p xs i v (λ j u there none. idle (suc j) u there none) at (omega arith) in
    omega arith

pub total_ones : {X : Type 0} (xs : List X) → total (λ _. 1) xs ≡ length xs
total_ones [] = refl
total_ones (x ∷ xs) = omega (arith, total_ones xs)

pub below_ones : (n : ℕ) → below (λ _. 1) n ≡ n
below_ones zero = refl
below_ones (suc n) = omega (arith, below_ones n)
