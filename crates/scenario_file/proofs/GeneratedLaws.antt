-- The generated scenario is a scenario.
use Rattle.std.proofs.Common.{◌≡◌, ℕ, ◌+◌, ◌-◌, ◌*◌, ◌%◌, ◌^◌, ◌<◌, ◌≤◌, suc, zero, List, [], ◌∷◌, ◌++◌, length, drop, take, map, refl, ap, sym, ◌∙◌, append_assoc, append-nil, arith, inr, true, false}
use Rattle.std.specs.Prelude.{bytes_eq}
use Rattle.std.specs.List.{All}
use Rattle.std.proofs.lemmas.Bool.Decides.{nat_tests}
use Rattle.std.proofs.lemmas.List.Elements.{All-nil, All-cons, All-from_recursion}
use Rattle.std.proofs.lemmas.List.FromFn.{length-map-range_with_len}
use Rattle.std.proofs.lemmas.List.Sums.{sum_by-cons, count_by-le-length}
use Rattle.ring_words.specs.declared.order.Orders.{Orders}
use Rattle.ring_words.specs.Page.{word_count}
use Rattle.ring_words.specs.Rings.{number_of, size}
use Rattle.scenario_file.specs.declared.scenario.Domain.{Domain}
use Rattle.scenario_file.specs.declared.scenario.CallPlan.{CallPlan}
use Rattle.scenario_file.specs.Names.{is_name, is_service}
use Rattle.scenario_file.specs.Scenario.{lays_page, stdin_total, AreApart, CallFits, DomainFits, IsHonest, IsScenario, Rises}
use Rattle.scenario_file.specs.Generator.{fill, generated_names, generated_services, text_at, generated_domain, other_place, generated_call, call_from, after_call, generated_calls}

-- the generated domains
abbrev pub made_domains : List Domain
made_domains = map generated_domain generated_names

pub names_fit : (k : ℕ) → k < 4 → is_name (text_at generated_names k) ≡ true
names_fit zero h = refl
names_fit (suc zero) h = refl
names_fit (suc (suc zero)) h = refl
names_fit (suc (suc (suc zero))) h = refl
names_fit (suc (suc (suc (suc k)))) h = absurd (omega (arith, h))

-- the domains up to a place, and the one at it
pub domain_more : (k : ℕ) (before after : List Domain) (domain : Domain) → k < 4 → before ≡ map generated_domain (take k generated_names) → domain ≡ generated_domain (text_at generated_names k)
    → after ≡ before ++ domain ∷ [] → after ≡ map generated_domain (take (k + 1) generated_names)
domain_more zero before after domain h so_far here pushed = rw (pushed, so_far, here) refl
domain_more (suc zero) before after domain h so_far here pushed = rw (pushed, so_far, here) refl
domain_more (suc (suc zero)) before after domain h so_far here pushed = rw (pushed, so_far, here) refl
domain_more (suc (suc (suc zero))) before after domain h so_far here pushed = rw (pushed, so_far, here) refl
domain_more (suc (suc (suc (suc k)))) before after domain h so_far here pushed = absurd (omega (arith, h))

pub services_fit : (k : ℕ) → k < 6 → is_service (text_at generated_services k) ≡ true
services_fit zero h = refl
services_fit (suc zero) h = refl
services_fit (suc (suc zero)) h = refl
services_fit (suc (suc (suc zero))) h = refl
services_fit (suc (suc (suc (suc zero)))) h = refl
services_fit (suc (suc (suc (suc (suc zero))))) h = refl
services_fit (suc (suc (suc (suc (suc (suc k)))))) h = absurd (omega (arith, h))

places_honest : (k : ℕ) → k < 4 → IsHonest made_domains (k + 1)
places_honest zero h = refl
places_honest (suc zero) h = refl
places_honest (suc (suc zero)) h = refl
places_honest (suc (suc (suc zero))) h = refl
places_honest (suc (suc (suc (suc k)))) h = absurd (omega (arith, h))

pub other_within : (caller number : ℕ) → number < 3 → other_place caller number < 4
other_within caller number h = grind (arith, nat_tests)

pub length_fill : (count : ℕ) → length (fill count) ≡ count
unfolding fill
length_fill count = length-map-range_with_len (λ i. i % 251) 0 count

call_fits : (number caller target service stdin : ℕ) → number < 2 ^ 32 → CallFits made_domains (generated_call number caller target service stdin)
call_fits number caller target service stdin small = record {
  number = small;
  caller = places_honest (caller % 4) (omega arith);
  target = names_fit (other_place (caller % 4) (target % 3)) (other_within (caller % 4) (target % 3) (omega arith));
  service = services_fit (service % 6) (omega arith);
  stdin = omega (arith, length_fill (stdin % 2049));
}

calls_fit_lem : (number x count : ℕ) → number + count ≤ 2 ^ 32 → All (CallFits made_domains) (generated_calls number x count)
unfolding generated_calls
calls_fit_lem number x zero few = All-nil (CallFits made_domains)
calls_fit_lem number x (suc count) few = All-cons (CallFits made_domains) (call_from number x) (generated_calls (number + 1) (after_call x) count) (call_fits number _ _ _ _ (omega (arith, few))) (calls_fit_lem (number + 1) (after_call x) count (omega (arith, few)))

length_calls : (number x count : ℕ) → length (generated_calls number x count) ≡ count
unfolding generated_calls
length_calls number x zero = refl
length_calls number x (suc count) = ap suc (length_calls (number + 1) (after_call x) count)

rise : (below number x count : ℕ) → below < number → Rises below (generated_calls number x count)
unfolding generated_calls
rise below number x zero h = tt
rise below number x (suc count) h = (h, rise number (number + 1) (after_call x) count (omega arith))

few_bytes : (number x count : ℕ) → stdin_total (generated_calls number x count) ≤ count * 2048
unfolding generated_calls
few_bytes number x zero = omega arith
few_bytes number x (suc count) =
    let more = few_bytes (number + 1) (after_call x) count in
    let first = sum_by-cons (λ (call : CallPlan). length call.stdin) (call_from number x) (generated_calls (number + 1) (after_call x) count) in
    let here = (call_fits' number x) in
    omega (arith, more, first, here)
  where
    call_fits' : (number x : ℕ) → length (call_from number x).stdin ≤ 2048
    call_fits' number x = omega (arith, length_fill ((after_call x) % 2049))

words_are : (orders : Orders) → number_of orders.left ≡ 10 → number_of orders.right ≡ 11 → word_count orders ≡ 3086
unfolding size
words_are orders left right = rw (left, right) refl

domain_fits : (k : ℕ) → k < 4 → DomainFits (generated_domain (text_at generated_names k))
domain_fits k h = record { name = names_fit k h; numbers = (refl, inr refl); acts = tt }

domains_fit_lem : All DomainFits made_domains
domains_fit_lem = All-from_recursion DomainFits made_domains
    (domain_fits 0 (omega arith), (domain_fits 1 (omega arith), (domain_fits 2 (omega arith), (domain_fits 3 (omega arith), tt))))

-- another name than that of this place
abbrev Differs : ℕ → Domain → Type 0
Differs k other = bytes_eq (text_at generated_names k) other.name ≡ false

apart : AreApart made_domains
apart = (
  All-from_recursion (Differs 0) (drop 1 made_domains) (refl, (refl, (refl, tt))),
  (
    All-from_recursion (Differs 1) (drop 2 made_domains) (refl, (refl, tt)),
    (
      All-from_recursion (Differs 2) (drop 3 made_domains) (refl, tt),
      (All-nil (Differs 3), tt),
    ),
  ),
)

-- this many generated calls between the generated domains make a scenario
pub generated_is_scenario : (seed calls : ℕ) (orders : Orders) → number_of orders.left ≡ 10 → number_of orders.right ≡ 11 → calls ≤ 2000
    → IsScenario (record { control = orders; payload = orders; start = 0; domains = made_domains; calls = generated_calls 1 seed calls })
generated_is_scenario seed calls orders left right few = record {
  few_domains = omega arith;
  few_calls = omega (arith, length_calls 1 seed calls);
  domains_fit = domains_fit_lem;
  apart = apart;
  calls_fit = calls_fit_lem 1 seed calls (omega (arith, few));
  rising = rise 0 1 seed calls (omega arith);
  stdin = omega (arith, few_bytes 1 seed calls);
  words =
      let count = words_are orders left right in
      let laid = count_by-le-length (lays_page made_domains) (generated_calls 1 seed calls) in
      let all = length_calls 1 seed calls in
      rw count (omega (arith, laid, all));
}

-- the first of this many calls
pub generated_step : (number x count : ℕ) → 0 < count → generated_calls number x count ≡ call_from number x ∷ generated_calls (number + 1) (after_call x) (count - 1)
unfolding generated_calls
generated_step number x zero h = absurd (omega arith)
generated_step number x (suc count) h = let less : suc count - 1 ≡ count = omega arith in rw less refl

pub generated_none : (number x count : ℕ) → count ≡ 0 → generated_calls number x count ≡ []
unfolding generated_calls
generated_none number x zero h = refl
generated_none number x (suc count) h = absurd (omega arith)

-- a call after those before
pub generated_more : (done : List CallPlan) (call : CallPlan) (number x last left less : ℕ) (all : List CallPlan) → 0 < left → less ≡ left - 1
    → call ≡ call_from number x → last ≡ after_call x → done ++ generated_calls number x left ≡ all
    → (done ++ call ∷ []) ++ generated_calls (number + 1) last less ≡ all
generated_more done call number x last left less all some one made after so_far =
    rw (append_assoc, made, after, one, ← generated_step number x left some) so_far

-- no call is left
pub generated_done : (done : List CallPlan) (number x left : ℕ) (all : List CallPlan) → left ≡ 0 → done ++ generated_calls number x left ≡ all → done ≡ all
generated_done done number x left all none so_far =
    let nothing = generated_none number x left none in
    let whole = rw nothing at so_far in
    sym (append-nil done) ∙ whole
