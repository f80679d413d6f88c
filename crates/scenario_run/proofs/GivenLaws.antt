-- What a scenario keeps is what its tasks may be given.
use Rattle.std.proofs.Common.{◌≡◌, ◌≢◌, ℕ, zero, suc, ◌+◌, ◌-◌, ◌*◌, ◌^◌, ◌<◌, ◌≤◌, List, [], ◌∷◌, ◌++◌, map, length, refl, ap, sym, ◌∙◌, subst, arith, length-append}
use Rattle.std.specs.Prelude.{◌==◌, Bool, true, false, slice_get, slice_index_or, if◌then◌else◌}
use Rattle.std.specs.List.{All, flat_map, AllByRecursion as Each}
use Rattle.std.specs.Option.{option_map_or}
use Rattle.std.proofs.lemmas.Bool.Decides.{nat_tests}
use Rattle.std.proofs.lemmas.List.Sums.{count_by-le-length}
use Rattle.std.proofs.lemmas.List.Elements.{All-from_recursion, recursion_from_All}
use Rattle.std.proofs.lemmas.List.{length-map}
use Rattle.list_laws.specs.Lists.{AreDifferent}
use Rattle.call_broker.specs.Domains.{Domains, first_port}
use Rattle.agent_queue.specs.Queue.{FitsTrigger}
use Rattle.broker_task.specs.Replies.{HasShortNames}
use Rattle.scenario_file.specs.Scenario.{Plan as Scenario, DomainFits, IsScenario, hostile_at, is_hostile}
use Rattle.scenario_file.specs.declared.scenario.CallPlan.{CallPlan}
use Rattle.scenario_file.specs.declared.scenario.Domain.{Domain}
use Rattle.scenario_file.proofs.TotalLaws.{within_kind}
use Rattle.task_duties.specs.declared.ends.DataEnd.{DataEnd}
use Rattle.task_duties.specs.declared.ends.UnusedEnd.{UnusedEnd}
use Rattle.run_pages.specs.Dealt.{IsLaidWith}
use Rattle.task_duties.specs.declared.place.PagePlace.TheVariants.{Control, Payload}
use Rattle.task_duties.specs.Hostile.Stores.{role_at}
use Rattle.task_duties.specs.Places.{numbers}
use Rattle.task_duties.specs.GivenEnds.{all_given, fresh_view}
use Rattle.task_duties.specs.Words.{ident_of}
use Rattle.task_duties.proofs.Elements.{each_at, each_of, has_filter}
use Rattle.task_duties.proofs.Places.{length_numbers}
use Rattle.agent_slots.specs.Slots.{IsEndOf, IsGiven}
use Rattle.hostile_task.specs.Plan.{AreDataOf}
use Rattle.hostile_task.specs.declared.domain.HostileDomain.{HostileDomain}
use Rattle.ring_words.specs.declared.page.Role.{Role}
use Rattle.ring_words.specs.declared.page.Role.TheVariants.{Server, Client}
use Rattle.run_laws.specs.Laid.{all_domains, calls_between, calls_from, is_from_to, laid, laid_between, page_table, pages_between, ports_at, ports_between}
use Rattle.run_laws.proofs.Scenarios.Calls.{calls_differ, idents}
use Rattle.run_laws.proofs.Scenarios.Facts.{IsCall, IsDomain, clean_scenario}

-- ---- an agent

different : (calls : List CallPlan) → AreDifferent (idents calls) → AreDifferent (map (λ c. c.number) calls)
different [] differ = tt
different (c ∷ calls) differ = (others c calls differ.0, different calls differ.1)
  where
    others : (c : CallPlan) (calls : List CallPlan) → Each (λ (i : List ℕ). ident_of c.number ≢ i) (idents calls) → Each (λ (n : ℕ). c.number ≢ n) (map (λ c. c.number) calls)
    others c [] each = tt
    others c (x ∷ calls) each = ((λ e. each.0 (ap ident_of e)), others c calls each.1)

pub numbers_differ : (s : Scenario) → IsScenario s → (d : ℕ) → AreDifferent (map (λ c. c.number) (calls_from s d))
numbers_differ s is d = different (calls_from s d) (calls_differ s (clean_scenario s is) d)

pub calls_fit_lem : (s : Scenario) → IsScenario s → (d : ℕ) → Each FitsTrigger (calls_from s d)
calls_fit_lem s is d = each_of FitsTrigger (calls_from s d) (λ c h. (let call = each_at (IsCall s) s.calls c (clean_scenario s is).calls (has_filter (λ c. c.from == d) s.calls c h).0 in (call.to.short, call.service_short)))

-- ---- the broker

pub same_lengths : {A B C : Type 0} (f : A → C) (g : B → C) (xs : List A) (ys : List B) → map f xs ≡ map g ys → length xs ≡ length ys
same_lengths f g xs ys same = sym (length-map xs f) ∙ ap length same ∙ length-map ys g

rows_length : {A : Type 0} (f : ℕ → ℕ → A) (columns rows : List ℕ) → length (flat_map (λ r. map (f r) columns) rows) ≡ length rows * length columns
rows_length f columns [] = (let e : 0 * length columns ≡ 0 = omega arith in sym e)
rows_length f columns (r ∷ rows) =
    length-append (map (f r) columns) (flat_map (λ r. map (f r) columns) rows)
    ∙ (let a = length-map columns (f r) in let b = rows_length f columns rows in let e : suc (length rows) * length columns ≡ length columns + length rows * length columns = omega arith in omega (arith, a, b, e))

pub table_square : (s : Scenario) → length (page_table s) ≡ length s.domains * length s.domains
table_square s = rows_length (pages_between s) (all_domains s) (all_domains s) ∙ ap (λ n. n * n) (length_numbers 1 1 (length s.domains))

all_ports : (domains : List Domain) (k : ℕ) → Each DomainFits domains → option_map_or (λ domain. domain.ports) (slice_get domains k) 0 ≤ 32
all_ports [] k each = omega arith
all_ports (d ∷ domains) zero each = within_kind (is_hostile d) d.ports d.version each.0.numbers
all_ports (d ∷ domains) (suc k) each = all_ports domains k each.1

ports_few : (s : Scenario) → IsScenario s → (d : ℕ) → ports_at s d ≤ 32
ports_few s is zero = omega arith
ports_few s is (suc k) = all_ports s.domains k (recursion_from_All DomainFits s.domains is.domains_fit)

pub pages_few : (s : Scenario) → IsScenario s → (from to : ℕ) → pages_between s from to ≤ 4096
pages_few s is from to = by (from == to) (hostile_at s from)
  where
    by : (a b : Bool) → (if a then 0 else if b then ports_at s from else calls_between s from to) ≤ 4096
    by true b = omega arith
    by false true = let less = ports_few s is from in omega (arith, less)
    by false false = let less = count_by-le-length (is_from_to s from to) s.calls in let few = is.few_calls in omega (arith, less, few)

row_within : (f : ℕ → ℕ) (bound : ℕ) (xs : List ℕ) → ((x : ℕ) → f x ≤ bound) → (rest : List ℕ) → Each (λ p. p ≤ bound) rest → Each (λ p. p ≤ bound) (map f xs ++ rest)
row_within f bound [] less rest each = each
row_within f bound (x ∷ xs) less rest each = (less x, row_within f bound xs less rest each)

table_each : (s : Scenario) → IsScenario s → (rows : List ℕ) → Each (λ p. p ≤ 65536) (flat_map (λ from. map (pages_between s from) (all_domains s)) rows)
table_each s is [] = tt
table_each s is (r ∷ rows) = row_within (pages_between s r) 65536 (all_domains s) (λ x. let few = pages_few s is r x in omega (arith, few)) _ (table_each s is rows)

pub table_within : (s : Scenario) → IsScenario s → All (λ p. p ≤ 65536) (page_table s)
table_within s is = All-from_recursion (λ p. p ≤ 65536) (page_table s) (table_each s is (all_domains s))

name_short : (domains : List Domain) (k : ℕ) → Each IsDomain domains → length (slice_index_or (map (λ domain. domain.name) domains) k []) ≤ 31
name_short [] k each = omega arith
name_short (d ∷ domains) zero each = each.0.name.short
name_short (d ∷ domains) (suc k) each = name_short domains k each.1

pub names_short : (s : Scenario) → IsScenario s → (hub : Domains) → hub.names ≡ map (λ domain. domain.name) s.domains → HasShortNames hub
names_short s is hub names d there = subst (λ ns. length (slice_index_or ns (d - 1) []) ≤ 31) (sym names) (name_short s.domains (d - 1) (clean_scenario s is).domains)

pub awaited_length : {A : Type 0} (f : ℕ → A) (s : Scenario) → length (map f (all_domains s)) ≡ length s.domains
awaited_length f s = length-map (all_domains s) f ∙ length_numbers 1 1 (length s.domains)

-- ---- a hostile domain

server_role : (d from to port : ℕ) (role : Role) → IsEndOf d (Payload from to port) role → role ≡ role_at d (Payload from to port)
server_role d from to port Server is = let same : (from == d) ≡ true = (let e = is.0 in grind (arith, nat_tests, e)) in rw same refl
server_role d from to port Client is = let other : (from == d) ≡ false = no_test from d is.1 in rw other refl
  where
    no_test : (a b : ℕ) → a ≢ b → (a == b) ≡ false
    no_test a b differ = by (a == b) refl
      where
        by : (t : Bool) → (a == b) ≡ t → (a == b) ≡ false
        by true is' = absurd (differ (grind (arith, nat_tests, is')))
        by false is' = is'

pub data_of : (h : HostileDomain) (payload : List DataEnd) → Each (IsGiven h.number) (all_given payload) → Each (IsLaidWith h.payload) payload → AreDataOf h payload
data_of h [] given laid = tt
data_of h (x ∷ payload) given laid =
    let end = laid.0.end in
    let of_domain = subst (λ (e : UnusedEnd). IsEndOf h.number (Payload x.from x.to x.port) (fresh_view e).role) laid.0.is given.0.of_domain in
    (record { end = end; laid = laid.0.is; role = server_role h.number x.from x.to x.port end.side.role of_domain; orders = laid.0.orders_are }, data_of h payload given.1 laid.1)

-- ---- the pages

flat_few : {A : Type 0} (g : ℕ → List A) (bound : ℕ) (xs : List ℕ) → ((x : ℕ) → length (g x) ≤ bound) → length (flat_map g xs) ≤ length xs * bound
flat_few g bound [] less = omega arith
flat_few g bound (x ∷ xs) less =
    let here = less x in
    let rest = flat_few g bound xs less in
    let e = length-append (g x) (flat_map g xs) in
    let times : suc (length xs) * bound ≡ bound + length xs * bound = omega arith in
    omega (arith, here, rest, e, times)

between_few : (s : Scenario) → IsScenario s → (from to : ℕ) → length (laid_between s from to) ≤ 4096
between_few s is from to =
    let a = length-map (ports_between s from to) (Payload from to) in
    let b = length_numbers (first_port from to) 2 (pages_between s from to) in
    let c = pages_few s is from to in omega (arith, a, b, c)

times_most : (n m b : ℕ) → n ≤ m → n * b ≤ m * b
times_most n m zero less = omega arith
times_most n m (suc b) less =
    let more = times_most n m b less in
    let x : n * suc b ≡ n + n * b = omega arith in
    let y : m * suc b ≡ m + m * b = omega arith in omega (arith, more, x, y, less)

pub laid_few : (s : Scenario) → IsScenario s → length (laid s) < 2 ^ 32
laid_few s is =
    let count = length_numbers 1 1 (length s.domains) in
    let few : length (all_domains s) ≤ 32 = (let n = is.few_domains in omega (arith, n, count)) in
    let inner : (from : ℕ) → length (flat_map (laid_between s from) (all_domains s)) ≤ 131072 =
    λ from. (let a = flat_few (laid_between s from) 4096 (all_domains s) (between_few s is from) in let b = times_most (length (all_domains s)) 32 4096 few in omega (arith, a, b)) in
    let data_pages = flat_few (λ from. flat_map (laid_between s from) (all_domains s)) 131072 (all_domains s) inner in
    let most = times_most (length (all_domains s)) 32 131072 few in
    let controls = length-map (all_domains s) Control in
    let all = length-append (map Control (all_domains s)) (flat_map (λ from. flat_map (laid_between s from) (all_domains s)) (all_domains s)) in
    omega (arith, data_pages, most, controls, all, few)
