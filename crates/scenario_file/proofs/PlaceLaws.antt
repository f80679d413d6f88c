-- Places of domains.
use Rattle.std.proofs.Common.{◌≡◌, ℕ, ◌+◌, ◌<◌, suc, zero, List, [], ◌∷◌, length, Bool, true, false, cond, refl, ap, sym, arith, Option, Some, None, option_map}
use Rattle.std.specs.Prelude.{position, bytes_eq, nat_lt, IfSome, if◌then◌else◌}
use Rattle.std.specs.List.{position_or_len}
use Rattle.std.proofs.lemmas.Bool.Decides.{nat_tests}
use Rattle.scenario_file.specs.declared.scenario.Domain.{Domain}
use Rattle.scenario_file.specs.Scenario.{place_named}

later_place : (a n : ℕ) → cond (nat_lt (1 + a) (suc n)) (Some (1 + a)) None ≡ option_map suc (cond (nat_lt a n) (Some a) None)
later_place a n = by_test (nat_lt a n) refl
  where
    by_test : (b : Bool) → nat_lt a n ≡ b → cond (nat_lt (1 + a) (suc n)) (Some (1 + a)) None ≡ option_map suc (cond b (Some a) None)
    by_test true is = let up : nat_lt (1 + a) (suc n) ≡ true = grind (arith, nat_tests) in rw up (ap (λ k. Some k) (omega arith))
    by_test false is = let up : nat_lt (1 + a) (suc n) ≡ false = grind (arith, nat_tests) in rw up refl

-- the place by std's word is the place by the definition
pub position_named : (domains : List Domain) (name : List ℕ) → position (λ domain. bytes_eq domain.name name) domains ≡ place_named domains name
position_named [] name = refl
position_named (x ∷ domains) name = by_name (bytes_eq x.name name) refl (position_named domains name)
  where
    by_name : (b : Bool) → bytes_eq x.name name ≡ b → position (λ domain. bytes_eq domain.name name) domains ≡ place_named domains name
        → position (λ domain. bytes_eq domain.name name) (x ∷ domains) ≡ place_named (x ∷ domains) name
    by_name true is more = let up : nat_lt 0 (suc (length domains)) ≡ true = grind (arith, nat_tests) in rw (is, up) refl
    by_name false is more = rw is (rw (← more) (later_place (position_or_len (λ (domain : Domain). bytes_eq domain.name name) domains) (length domains)))

-- a domain of a name stands within the list
pub place_within : (o : Option ℕ) (domains : List Domain) (name : List ℕ) → o ≡ place_named domains name → IfSome o (λ place. place < length domains)
place_within None domains name is = tt
place_within (Some k) domains name is = within domains k (sym is)
  where
    within : (ds : List Domain) (j : ℕ) → place_named ds name ≡ Some j → j < length ds
    within [] j e = cc
    within (x ∷ ds) j e = by_name (bytes_eq x.name name) (λ i is'. within ds i is') e
      where
        by_rest : (o' : Option ℕ) → ((i : ℕ) → o' ≡ Some i → i < length ds) → (j' : ℕ) → option_map suc o' ≡ Some j' → j' < suc (length ds)
        by_rest None more j' e' = cc
        by_rest (Some i) more zero e' = omega arith
        by_rest (Some i) more (suc j') e' = let same : i ≡ j' = cc in let below = more i refl in omega (arith, same, below)

        by_name : (b : Bool) → ((i : ℕ) → place_named ds name ≡ Some i → i < length ds) → (if b then Some 0 else option_map suc (place_named ds name)) ≡ Some j → j < suc (length ds)
        by_name true more e' = let zero_is : 0 ≡ j = cc in omega (arith, zero_is)
        by_name false more e' = by_rest (place_named ds name) more j e'
