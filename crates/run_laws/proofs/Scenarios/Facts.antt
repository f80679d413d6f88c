-- What the laws use of a scenario, element by element: clean names, differing names, rising numbers.
use Rattle.std.proofs.Common.{◌≡◌, ◌≢◌, ℕ, ◌<◌, ◌≤◌, ◌^◌, suc, zero, List, [], ◌∷◌, length, map, refl, ap, sym, ◌∙◌, arith, inl, inr, Option, Some, None, subst}
use Rattle.std.specs.Prelude.{true, false, Bool, ◌==◌, ◌&&◌, nat_le, bytes_eq, slice_index_or, is_some, AllPairs, if◌then◌else◌}
use Rattle.std.specs.List.{list_all, AllByRecursion as Each}
use Rattle.std.specs.Option.{option_map_or}
use Rattle.std.proofs.lemmas.Bool.{and_parts, false≢true}
use Rattle.std.proofs.lemmas.Bool.Decides.{nat_tests}
use Rattle.std.proofs.lemmas.List.Elements.{recursion_from_All}
use Rattle.qrexec_frame.specs.Names.{is_name_byte, cleaned_name, cleaned_service}
use Rattle.qrexec_frame.specs.Texts.{HasNoNul}
use Rattle.scenario_file.specs.Names.{is_name, is_service_byte}
use Rattle.scenario_file.specs.declared.scenario.Domain.{Domain}
use Rattle.scenario_file.specs.declared.scenario.CallPlan.{CallPlan}
use Rattle.scenario_file.specs.Scenario.{Plan as Scenario, IsScenario, DomainFits, NumbersFit, CallFits, AreApart, Rises, domain_at, domain_of, is_hostile, hostile_at, IsHonest}
use Rattle.scenario_file.proofs.NameLaws.{no_nul_in_name, no_nul_in_service}
use Rattle.run_laws.specs.Run.{Run, IsRun}

pub record IsName (name : List ℕ) : Type 0 where
  pub some : 0 < length name
  pub short : length name ≤ 31
  pub clean : cleaned_name name ≡ name
  pub no_nul : HasNoNul name

pub record IsCall (s : Scenario) (call : CallPlan) : Type 0 where
  pub from_some : is_some (domain_of s call.from) ≡ true
  pub from_honest : hostile_at s call.from ≡ false
  pub caller : IsHonest s.domains call.from
  pub number_small : call.number < 2 ^ 64
  pub to : IsName call.to
  pub service_short : length call.service ≤ 63
  pub service_clean : cleaned_service call.service ≡ call.service
  pub service_no_nul : HasNoNul call.service

pub record IsDomain (domain : Domain) : Type 0 where
  pub name : IsName domain.name
  pub least : 2 ≤ domain.version
  pub most : domain.version ≤ 3

pub record IsClean (s : Scenario) : Type 0 where
  pub domains : Each IsDomain s.domains
  pub names_differ : AllPairs (λ a b. a.name ≢ b.name) s.domains
  pub calls : Each (IsCall s) s.calls
  pub numbers_rise : AllPairs (λ a b. a.number < b.number) s.calls
  pub few : length s.calls ≤ 4096

-- ---- names

kept_as_it_is : (keeps : ℕ → Bool) (text : List ℕ) → list_all keeps text ≡ true → map (λ b. if keeps b then b else 95) text ≡ text
kept_as_it_is keeps [] all = refl
kept_as_it_is keeps (b ∷ text) all =
    let parts = and_parts (keeps b) (list_all keeps text) all in
    let head = parts.0 in
    rw head (ap (λ r. b ∷ r) (kept_as_it_is keeps text parts.1))

name_is : (name : List ℕ) → is_name name ≡ true → IsName name
name_is name is =
    let parts = and_parts (nat_le 1 (length name) && nat_le (length name) 31) (list_all is_name_byte name) is in
    let sizes = and_parts (nat_le 1 (length name)) (nat_le (length name) 31) parts.0 in
    let low : 1 ≤ length name = grind (arith, nat_tests, sizes.0) in
    let high : length name ≤ 31 = grind (arith, nat_tests, sizes.1) in
    record { some = omega (arith, low); short = high; clean = kept_as_it_is is_name_byte name parts.1; no_nul = no_nul_in_name name is }

-- ---- domains

version_fits : (hostile : Bool) (ports version : ℕ) → NumbersFit hostile ports version → (2 ≤ version) × (version ≤ 3)
version_fits false ports version (four, inl two) = (omega (arith, two), omega (arith, two))
version_fits false ports version (four, inr three) = (omega (arith, three), omega (arith, three))
version_fits true ports version (few, three) = (omega (arith, three), omega (arith, three))

domains_are : (domains : List Domain) → Each DomainFits domains → Each IsDomain domains
domains_are [] fit = tt
domains_are (domain ∷ domains) fit =
    let version = version_fits (is_hostile domain) domain.ports domain.version fit.0.numbers in
    (record { name = name_is domain.name fit.0.name; least = version.0; most = version.1 }, domains_are domains fit.1)

bytes_differ : (a b : List ℕ) → bytes_eq a b ≡ false → a ≢ b
bytes_differ a b differ same = let self : bytes_eq a b ≡ true = subst (λ x. bytes_eq a x ≡ true) same (bytes_self a) in false≢true (sym differ ∙ self)
  where
    bytes_self : (text : List ℕ) → bytes_eq text text ≡ true
    bytes_self [] = refl
    bytes_self (x ∷ text) = let first : (x == x) ≡ true = grind (arith, nat_tests) in rw first (bytes_self text)

names_apart : (domains : List Domain) → AreApart domains → AllPairs (λ a b. a.name ≢ b.name) domains
names_apart [] apart i j d less within = absurd (omega (arith, within))
names_apart (domain ∷ domains) apart zero zero d less within = absurd (omega (arith, less))
names_apart (domain ∷ domains) apart zero (suc j) d less within =
    bytes_differ domain.name (slice_index_or domains j d).name (apart.0 j d (omega (arith, within)))
names_apart (domain ∷ domains) apart (suc i) zero d less within = absurd (omega (arith, less))
names_apart (domain ∷ domains) apart (suc i) (suc j) d less within = names_apart domains apart.1 i j d (omega (arith, less)) (omega (arith, within))

-- ---- calls

caller_there : (o : Option Domain) → option_map_or is_hostile o true ≡ false → (is_some o ≡ true) × (option_map_or is_hostile o false ≡ false)
caller_there None honest = cc
caller_there (Some domain) honest = (refl, honest)

calls_are : (s : Scenario) (calls : List CallPlan) → Each (CallFits s.domains) calls → Each (IsCall s) calls
calls_are s [] fit = tt
calls_are s (call ∷ calls) fit =
    let caller = caller_there (domain_at s.domains call.from) fit.0.caller in
    let parts = and_parts (nat_le 1 (length call.service) && nat_le (length call.service) 63) (list_all is_service_byte call.service) fit.0.service in
    let sizes = and_parts (nat_le 1 (length call.service)) (nat_le (length call.service) 63) parts.0 in
    let high : length call.service ≤ 63 = grind (arith, nat_tests, sizes.1) in (
      record {
        from_some = caller.0;
        from_honest = caller.1;
        caller = fit.0.caller;
        number_small = omega (arith, fit.0.number);
        to = name_is call.to fit.0.target;
        service_short = high;
        service_clean = kept_as_it_is is_service_byte call.service parts.1;
        service_no_nul = no_nul_in_service call.service fit.0.service;
      },
      calls_are s calls fit.1,
    )

above : (below : ℕ) (calls : List CallPlan) → Rises below calls → (j : ℕ) (d : CallPlan) → j < length calls → below < (slice_index_or calls j d).number
above below [] rises j d within = absurd (omega (arith, within))
above below (call ∷ calls) rises zero d within = rises.0
above below (call ∷ calls) rises (suc j) d within = omega (arith, rises.0, above call.number calls rises.1 j d (omega (arith, within)))

numbers_rise_lem : (below : ℕ) (calls : List CallPlan) → Rises below calls → AllPairs (λ a b. a.number < b.number) calls
numbers_rise_lem below [] rises i j d less within = absurd (omega (arith, within))
numbers_rise_lem below (call ∷ calls) rises zero zero d less within = absurd (omega (arith, less))
numbers_rise_lem below (call ∷ calls) rises zero (suc j) d less within = above call.number calls rises.1 j d (omega (arith, within))
numbers_rise_lem below (call ∷ calls) rises (suc i) zero d less within = absurd (omega (arith, less))
numbers_rise_lem below (call ∷ calls) rises (suc i) (suc j) d less within = numbers_rise_lem call.number calls rises.1 i j d (omega (arith, less)) (omega (arith, within))

-- ---- a scenario

pub clean_scenario : (s : Scenario) → IsScenario s → IsClean s
clean_scenario s is = record {
  domains = domains_are s.domains (recursion_from_All DomainFits s.domains is.domains_fit);
  names_differ = names_apart s.domains is.apart;
  calls = calls_are s s.calls (recursion_from_All (CallFits s.domains) s.calls is.calls_fit);
  numbers_rise = numbers_rise_lem 0 s.calls is.rising;
  few = is.few_calls;
}

pub facts : (s : Scenario) (run : Run) → IsRun s run → IsClean s
facts s run h = clean_scenario s h.scenario
