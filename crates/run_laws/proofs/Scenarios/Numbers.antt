-- The domains of a scenario, by number.
use Rattle.std.proofs.Common.{◌≡◌, ℕ, ◌<◌, ◌≤◌, suc, zero, List, [], ◌∷◌, length, map, refl, arith}
use Rattle.std.specs.Prelude.{true, nat_le, slice_get, is_some}
use Rattle.std.specs.Option.{option_map_or}
use Rattle.std.proofs.lemmas.Bool.Decides.{nat_tests}
use Rattle.std.proofs.lemmas.List.{length-map}
use Rattle.std.specs.List.{AllByRecursion as Each}
use Rattle.call_broker.specs.Domains.{is_domain}
use Rattle.scenario_file.specs.Scenario.{Plan as Scenario, domain_of, version_at}
use Rattle.scenario_file.specs.declared.scenario.Domain.{Domain}
use Rattle.run_laws.specs.Laid.{hub_of}
use Rattle.run_laws.proofs.Scenarios.Facts.{IsClean, IsDomain}

there_below : {A : Type 0} (xs : List A) (k : ℕ) → is_some (slice_get xs k) ≡ true → k < length xs
there_below [] k h = cc
there_below (x ∷ xs) zero h = omega arith
there_below (x ∷ xs) (suc k) h = let less = there_below xs k h in omega (arith, less)

pub domain_is : (s : Scenario) (d : ℕ) → is_some (domain_of s d) ≡ true → (1 ≤ d) × (d ≤ length s.domains)
domain_is s zero h = cc
domain_is s (suc k) h = let less = there_below s.domains k h in (omega arith, omega (arith, less))

pub is_domain_lem : (s : Scenario) (d : ℕ) → is_some (domain_of s d) ≡ true → is_domain (hub_of s) d ≡ true
is_domain_lem s d h =
    let in_range = domain_is s d h in
    let count : length (map (λ domain. domain.name) s.domains) ≡ length s.domains = length-map s.domains (λ domain. domain.name) in
    let low : nat_le 1 d ≡ true = grind (arith, nat_tests, in_range.0) in
    let high : nat_le d (length (map (λ domain. domain.name) s.domains)) ≡ true = rw count (grind (arith, nat_tests, in_range.1)) in
    rw (low, high) refl

pub record IsSpoken (version : ℕ) : Type 0 where
  pub least : 2 ≤ version
  pub most : version ≤ 3

version_of : (domains : List Domain) → Each IsDomain domains → (k : ℕ) → IsSpoken (option_map_or (λ domain. domain.version) (slice_get domains k) 3)
version_of [] each k = record { least = omega arith; most = omega arith }
version_of (domain ∷ domains) each zero = record { least = each.0.least; most = each.0.most }
version_of (domain ∷ domains) each (suc k) = version_of domains each.1 k

pub version_is : (s : Scenario) → IsClean s → (d : ℕ) → IsSpoken (version_at s d)
version_is s h zero = record { least = omega arith; most = omega arith }
version_is s h (suc k) = version_of s.domains h.domains k
