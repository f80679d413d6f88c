-- Clean names: what their bytes are, and which domain a target names.
use Rattle.std.proofs.Common.{◌≡◌, ℕ, ◌-◌, ◌<◌, ◌≤◌, suc, zero, List, [], ◌∷◌, length, map, refl, ap, sym, ◌∙◌, arith, Option, Some, None, subst}
use Rattle.std.specs.Prelude.{true, false, Bool, nat_le, ◌==◌, ◌||◌, bytes_eq, option_map, slice_get, slice_index_or, is_some, if◌then◌else◌}
use Rattle.std.specs.List.{list_any, AllByRecursion as Each}
use Rattle.std.specs.Option.{option_map_or}
use Rattle.std.proofs.lemmas.Bool.Decides.{nat_tests}
use Rattle.std.proofs.lemmas.Bool.{and_parts}
use Rattle.qrexec_frame.specs.Names.{is_name_byte, cleaned_name, cleaned_service, cleaned_target}
use Rattle.call_broker.specs.Domains.{place_of, name_of, target_of, is_domain}
use Rattle.task_duties.specs.Words.{is_space, is_word}
use Rattle.task_duties.proofs.LineLaw.{HasNoSpace}
use Rattle.scenario_file.specs.Scenario.{Plan as Scenario, domain_of, domain_named, place_named, name_at}
use Rattle.scenario_file.specs.declared.scenario.Domain.{Domain}
use Rattle.scenario_file.proofs.WithoutLaws.{named_there}
use Rattle.run_laws.specs.Laid.{hub_of}
use Rattle.run_laws.proofs.Scenarios.Facts.{IsName, IsDomain, IsClean}

-- ---- the bytes

abbrev pub service_byte : ℕ → Bool
service_byte b = is_name_byte b || (b == 43)

abbrev pub target_byte : ℕ → Bool
target_byte b = is_name_byte b || (b == 64) || (b == 58)

-- a text with `_` in place of each byte that isn't kept
abbrev pub kept : (ℕ → Bool) → List ℕ → List ℕ
kept keeps text = map (λ b. if keeps b then b else 95) text

byte_clean : (keeps : ℕ → Bool) → keeps 95 ≡ true → (b : ℕ) → (if keeps b then b else 95) ≡ b → keeps b ≡ true
byte_clean keeps line b same = by_test (keeps b) refl same
  where
    by_test : (c : Bool) → keeps b ≡ c → (if c then b else 95) ≡ b → keeps b ≡ true
    by_test true is e = is
    by_test false is e = subst (λ x. keeps x ≡ true) e line

pub clean_bytes : (keeps : ℕ → Bool) → keeps 95 ≡ true → (text : List ℕ) → kept keeps text ≡ text → Each (λ b. keeps b ≡ true) text
clean_bytes keeps line [] same = tt
clean_bytes keeps line (b ∷ text) same =
    let head : (if keeps b then b else 95) ≡ b = cc in
    let tail : kept keeps text ≡ text = cc in
    (byte_clean keeps line b head, clean_bytes keeps line text tail)

pub name_bytes : (text : List ℕ) → cleaned_name text ≡ text → Each (λ b. is_name_byte b ≡ true) text
name_bytes text same = clean_bytes is_name_byte refl text same

pub service_bytes : (text : List ℕ) → cleaned_service text ≡ text → Each (λ b. service_byte b ≡ true) text
service_bytes text same = clean_bytes service_byte refl text same

no_space : (keeps : ℕ → Bool) → keeps 32 ≡ false → (b : ℕ) → keeps b ≡ true → is_space b ≡ false
no_space keeps none b ok = by_test (b == 32) refl
  where
    by_test : (c : Bool) → (b == 32) ≡ c → c ≡ false
    by_test false is = refl
    by_test true is = let same : b ≡ 32 = grind (arith, nat_tests, is) in let ok' : keeps 32 ≡ true = subst (λ x. keeps x ≡ true) same ok in cc

pub no_spaces : (keeps : ℕ → Bool) → keeps 32 ≡ false → (text : List ℕ) → Each (λ b. keeps b ≡ true) text → HasNoSpace text
no_spaces keeps none [] each = tt
no_spaces keeps none (b ∷ text) each = (no_space keeps none b each.0, no_spaces keeps none text each.1)

no_any : (text : List ℕ) → HasNoSpace text → list_any is_space text ≡ false
no_any [] none = refl
no_any (b ∷ text) none = rw none.0 (no_any text none.1)

pub word_is : (name : List ℕ) → IsName name → is_word name ≡ true
word_is [] h = absurd (let some = h.some in omega (arith, some))
word_is (b ∷ name) h = let none = no_any (b ∷ name) (no_spaces is_name_byte refl (b ∷ name) (name_bytes (b ∷ name) h.clean)) in rw none refl

kept_clean : (text : List ℕ) → Each (λ b. is_name_byte b ≡ true) text → kept target_byte text ≡ text
kept_clean [] each = refl
kept_clean (b ∷ text) each = let ok = each.0 in rw ok (ap (λ r. b ∷ r) (kept_clean text each.1))

pub target_clean : (text : List ℕ) → Each (λ b. is_name_byte b ≡ true) text → cleaned_target text ≡ text
target_clean text each = kept_clean text each

-- ---- the domain that a text names

pub place_same : (domains : List Domain) (text : List ℕ) → place_of (map (λ domain. domain.name) domains) text ≡ place_named domains text
place_same [] text = refl
place_same (x ∷ domains) text = ap (λ o. if bytes_eq x.name text then Some 0 else option_map suc o) (place_same domains text)

pub target_is_lem : (s : Scenario) (text : List ℕ) → IsName text → target_of (hub_of s) text ≡ domain_named s text
target_is_lem s text h =
    let clean = target_clean text (name_bytes text h.clean) in
    let place = place_same s.domains text in
    rw (clean, place) refl

pub target_there : (s : Scenario) (text : List ℕ) (t : ℕ) → target_of (hub_of s) text ≡ Some t → is_some (domain_of s t) ≡ true
target_there s text t h = by_place (place_named s.domains (cleaned_target text)) refl (ap (option_map suc) (sym (place_same s.domains (cleaned_target text))) ∙ h)
  where
    by_place : (o : Option ℕ) → place_named s.domains (cleaned_target text) ≡ o → option_map suc o ≡ Some t → is_some (domain_of s t) ≡ true
    by_place None is e = cc
    by_place (Some k) is e = let same : suc k ≡ t = cc in subst (λ x. is_some (domain_of s x) ≡ true) same (named_there s.domains (cleaned_target text) k is)

-- ---- the names of domains by number

name_at_lem : (domains : List Domain) (k : ℕ) → slice_index_or (map (λ domain. domain.name) domains) k [] ≡ option_map_or (λ domain. domain.name) (slice_get domains k) []
name_at_lem [] k = refl
name_at_lem (x ∷ domains) zero = refl
name_at_lem (x ∷ domains) (suc k) = name_at_lem domains k

pub name_is : (s : Scenario) (d : ℕ) → is_some (domain_of s d) ≡ true → name_of (hub_of s) d ≡ name_at s d
name_is s zero h = cc
name_is s (suc k) h = let e : suc k - 1 ≡ k = omega arith in rw e (name_at_lem s.domains k)

named_well : (domains : List Domain) → Each IsDomain domains → (k : ℕ) → is_some (slice_get domains k) ≡ true → IsName (option_map_or (λ domain. domain.name) (slice_get domains k) [])
named_well [] each k h = cc
named_well (x ∷ domains) each zero h = each.0.name
named_well (x ∷ domains) each (suc k) h = named_well domains each.1 k h

pub name_well : (s : Scenario) → IsClean s → (d : ℕ) → is_some (domain_of s d) ≡ true → IsName (name_at s d)
name_well s h zero there = cc
name_well s h (suc k) there = named_well s.domains h.domains k there

pub below_there : (domains : List Domain) (k : ℕ) → k < length domains → is_some (slice_get domains k) ≡ true
below_there [] k less = absurd (omega (arith, less))
below_there (x ∷ domains) zero less = refl
below_there (x ∷ domains) (suc k) less = below_there domains k (omega (arith, less))

length_names : (domains : List Domain) → length (map (λ domain. domain.name) domains) ≡ length domains
length_names [] = refl
length_names (x ∷ domains) = ap suc (length_names domains)

pub domain_there : (s : Scenario) (d : ℕ) → is_domain (hub_of s) d ≡ true → is_some (domain_of s d) ≡ true
domain_there s zero h = let parts = and_parts (nat_le 1 0) (nat_le 0 (length (map (λ domain. domain.name) s.domains))) h in let no = parts.0 in absurd (let bad : 1 ≤ 0 = grind (arith, nat_tests, no) in omega (arith, bad))
domain_there s (suc k) h =
    let parts = and_parts (nat_le 1 (suc k)) (nat_le (suc k) (length (map (λ domain. domain.name) s.domains))) h in
    let low = parts.1 in
    let less : suc k ≤ length (map (λ domain. domain.name) s.domains) = grind (arith, nat_tests, low) in
    below_there s.domains k (omega (arith, less, length_names s.domains))
