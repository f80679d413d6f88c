-- A scenario without its hostile domains is a scenario.
use Rattle.std.proofs.Common.{◌≡◌, ℕ, ◌≤◌, suc, zero, List, [], ◌∷◌, length, refl, ◌∙◌, arith, Option, Some, None, cond}
use Rattle.std.specs.Prelude.{true, false, Bool, not, bytes_eq, filter, option_map, ◌==◌, sum_by, count_by}
use Rattle.std.specs.Option.{option_map_or}
use Rattle.std.specs.List.{AllByRecursion}
use Rattle.std.proofs.lemmas.List.Elements.{All-filter, All-map, All-weaker, recursion_from_All}
use Rattle.std.proofs.lemmas.List.{length-map}
use Rattle.std.proofs.Math.Nat.{mul-le-mul_right}
use Rattle.std.proofs.lemmas.List.Sums.{sum_by-cons, length-filter, count_by-le-length}
use Rattle.ring_words.specs.Page.{word_count}
use Rattle.scenario_file.specs.declared.scenario.Domain.{Domain}
use Rattle.scenario_file.specs.declared.scenario.CallPlan.{CallPlan}
use Rattle.scenario_file.specs.Scenario.{Plan, place_named, is_hostile, hostile_among, hostile_pages, lays_page, data_pages, word_total, stdin_total, targets_hostile, AreApart, CallFits, DomainFits, IsHonest, IsScenario, Rises}
use Rattle.scenario_file.specs.Lines.{honest, call_left, calls_left, without_hostile, lines}
use Rattle.scenario_file.proofs.WithoutLaws.{same_test, honest_left, plain_named, none_named, lines_without}

apart_filter : (p : Domain → Bool) (domains : List Domain) → AreApart domains → AreApart (filter p domains)
apart_filter p [] h = tt
apart_filter p (x ∷ domains) h = by_test (p x) refl (apart_filter p domains h.1)
  where
    by_test : (b : Bool) → p x ≡ b → AreApart (filter p domains) → AreApart (filter p (x ∷ domains))
    by_test true is more = rw is (All-filter p (λ other. bytes_eq x.name other.name ≡ false) domains h.0, more)
    by_test false is more = rw is more

rises_lower : (a b : ℕ) (calls : List CallPlan) → b ≤ a → Rises a calls → Rises b calls
rises_lower a b [] le h = tt
rises_lower a b (call ∷ calls) le h = (omega (arith, h.0), h.1)

rises_left : (domains : List Domain) (a : ℕ) (calls : List CallPlan) → Rises a calls → Rises a (calls_left domains calls)
rises_left domains a [] h = tt
rises_left domains a (call ∷ calls) h = by_mixed (targets_hostile domains call) refl (rises_left domains call.number calls h.1)
  where
    by_mixed : (b : Bool) → targets_hostile domains call ≡ b → Rises call.number (calls_left domains calls) → Rises a (calls_left domains (call ∷ calls))
    by_mixed true is more = rw is (rises_lower call.number a (calls_left domains calls) (omega (arith, h.0)) more)
    by_mixed false is more = rw is (h.0, more)

length_left : (domains : List Domain) (calls : List CallPlan) → length (calls_left domains calls) ≤ length calls
length_left domains calls =
    let plain = λ (call : CallPlan). not (targets_hostile domains call) in
    omega (arith, length-map (filter plain calls) (call_left domains), length-filter plain calls, count_by-le-length plain calls)

stdin_left : (domains : List Domain) (calls : List CallPlan) → stdin_total (calls_left domains calls) ≤ stdin_total calls
stdin_left domains [] = omega arith
stdin_left domains (call ∷ calls) = by_mixed (targets_hostile domains call) refl (stdin_left domains calls)
  where
    by_mixed : (b : Bool) → targets_hostile domains call ≡ b → stdin_total (calls_left domains calls) ≤ stdin_total calls → stdin_total (calls_left domains (call ∷ calls)) ≤ stdin_total (call ∷ calls)
    by_mixed true is more = rw is (omega (arith, sum_by-cons (λ (c : CallPlan). length c.stdin) call calls, more))
    by_mixed false is more =
        rw is (omega (arith, sum_by-cons (λ (c : CallPlan). length c.stdin) call calls, sum_by-cons (λ (c : CallPlan). length c.stdin) (call_left domains call) (calls_left domains calls), more))

-- a page is laid for a call that is left if and only if one was laid for it
same_lays : (domains : List Domain) (call : CallPlan) → IsHonest domains call.from → targets_hostile domains call ≡ false
    → lays_page (honest domains) (call_left domains call) ≡ lays_page domains call
same_lays domains call caller plain = by_place (place_named domains call.to) refl plain
  where
    by_from : (k d : ℕ) → place_named domains call.to ≡ Some k → call.from ≡ d → option_map_or (hostile_among domains) (Some (suc k)) false ≡ false
        → lays_page (honest domains) (call_left domains call) ≡ not (suc k == call.from)
    by_from k zero is f here = let there = rw f at caller in cc
    by_from k (suc j) is f here =
        let there = rw f at caller in
        let (at, named) = plain_named domains call.to k is here in
        let tests = same_test domains j k there at in
        rw (named, f, tests) refl

    by_place : (o : Option ℕ) → place_named domains call.to ≡ o → option_map_or (hostile_among domains) (option_map suc o) false ≡ false
        → lays_page (honest domains) (call_left domains call) ≡ option_map_or (λ place. not (suc place == call.from)) o false
    by_place None is here = let none = none_named domains call.to is in rw none refl
    by_place (Some k) is here = by_from k call.from is refl here

laid_left : (domains : List Domain) (calls : List CallPlan) → AllByRecursion (λ call. IsHonest domains call.from) calls
    → count_by (lays_page (honest domains)) (calls_left domains calls) ≤ count_by (lays_page domains) calls
laid_left domains [] each = omega arith
laid_left domains (call ∷ calls) each = by_mixed (targets_hostile domains call) refl (laid_left domains calls each.1)
  where
    by_mixed : (b : Bool) → targets_hostile domains call ≡ b → count_by (lays_page (honest domains)) (calls_left domains calls) ≤ count_by (lays_page domains) calls
        → count_by (lays_page (honest domains)) (calls_left domains (call ∷ calls)) ≤ count_by (lays_page domains) (call ∷ calls)
    by_mixed true is more = rw is (omega (arith, sum_by-cons (λ (c : CallPlan). cond (lays_page domains c) 1 0) call calls, more))
    by_mixed false is more =
        let same = same_lays domains call each.0 is in
        let first = sum_by-cons (λ (c : CallPlan). cond (lays_page domains c) 1 0) call calls in
        let second = sum_by-cons (λ (c : CallPlan). cond (lays_page (honest domains) c) 1 0) (call_left domains call) (calls_left domains calls) in
        let second' = rw same at second in
        rw is (omega (arith, first, second', more))

-- no pages are laid for hostile domains if there are none
no_pages : (n : ℕ) (domains : List Domain) → sum_by (hostile_pages n) (honest domains) ≡ 0
no_pages n [] = refl
no_pages n (x ∷ domains) = by_hostile (is_hostile x) refl (no_pages n domains)
  where
    by_hostile : (b : Bool) → is_hostile x ≡ b → sum_by (hostile_pages n) (honest domains) ≡ 0 → sum_by (hostile_pages n) (honest (x ∷ domains)) ≡ 0
    by_hostile true is more = rw is more
    by_hostile false is more = rw is (sum_by-cons (hostile_pages n) x (honest domains) ∙ rw (is, more) refl)

callers : (s : Plan) → IsScenario s → AllByRecursion (λ call. IsHonest s.domains call.from) s.calls
callers s is = recursion_from_All _ s.calls (All-weaker (CallFits s.domains) (λ call. IsHonest s.domains call.from) (λ call fits. fits.caller) s.calls is.calls_fit)

fit_left : (domains : List Domain) (call : CallPlan) → CallFits domains call → CallFits (honest domains) (call_left domains call)
fit_left domains call fits = record { number = fits.number; caller = honest_left domains call.from fits.caller; target = fits.target; service = fits.service; stdin = fits.stdin }

fewer_left : (domains : List Domain) → length (honest domains) ≤ length domains
fewer_left domains = omega (arith, length-filter (λ (domain : Domain). not (is_hostile domain)) domains, count_by-le-length (λ (domain : Domain). not (is_hostile domain)) domains)

words_left : (s : Plan) → IsScenario s → word_total (without_hostile s) ≤ word_total s
words_left s is =
    let fewer = fewer_left s.domains in
    let none = no_pages (length (honest s.domains)) s.domains in
    let laid = laid_left s.domains s.calls (callers s is) in
    let pages : data_pages (honest s.domains) (calls_left s.domains s.calls) ≤ data_pages s.domains s.calls = omega (arith, none, laid) in
    let first = mul-le-mul_right (word_count s.control) fewer in
    let second = mul-le-mul_right (word_count s.payload) pages in
    omega (arith, first, second)

-- what is left of a scenario is one
pub without_is_scenario : (s : Plan) → IsScenario s → IsScenario (without_hostile s)
without_is_scenario s is = record {
  few_domains = omega (arith, fewer_left s.domains, is.few_domains);
  few_calls = omega (arith, length_left s.domains s.calls, is.few_calls);
  domains_fit = All-filter (λ domain. not (is_hostile domain)) DomainFits s.domains is.domains_fit;
  apart = apart_filter (λ domain. not (is_hostile domain)) s.domains is.apart;
  calls_fit =
      let kept = All-filter (λ call. not (targets_hostile s.domains call)) (CallFits s.domains) s.calls is.calls_fit in
      let moved = All-weaker (CallFits s.domains) (λ call. CallFits (honest s.domains) (call_left s.domains call)) (fit_left s.domains) _ kept in
      All-map (CallFits (honest s.domains)) (call_left s.domains) _ moved;
  rising = rises_left s.domains 0 s.calls is.rising;
  stdin = omega (arith, stdin_left s.domains s.calls, is.stdin);
  words = omega (arith, words_left s is, is.words);
}

-- the honest lines are the same without the hostile domains
pub lines_stay : (s : Plan) → IsScenario s → lines (without_hostile s) ≡ lines s
lines_stay s is = lines_without s (callers s is)
