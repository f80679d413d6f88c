-- An honest domain has a page for each of its calls, so none of its triggers is refused as PortsSpent.
use Rattle.std.proofs.Common.{◌≡◌, ◌≢◌, ℕ, ◌+◌, ◌<◌, ◌≤◌, List, [], ◌∷◌, ◌++◌, length, map, refl, ap, ◌∙◌, arith, inl, inr, Option, Some, None, subst}
use Rattle.std.specs.Prelude.{true, false, Bool, ◌==◌, ◌&&◌, filter, is_some, if◌then◌else◌}
use Rattle.std.specs.Option.{option_map_or}
use Rattle.std.proofs.lemmas.Bool.Decides.{nat_tests}
use Rattle.std.proofs.lemmas.List.Sums.{length-filter}
use Rattle.std.specs.List.{AllByRecursion as Each}
use Rattle.list_laws.specs.Lists.{IsPrefixOf}
use Rattle.call_broker.specs.declared.decision.Entry.{Entry}
use Rattle.call_broker.specs.declared.event.Event.{Event}
use Rattle.call_broker.specs.declared.event.Event.TheVariants.{Trigger, Terminated, Dropped}
use Rattle.call_broker.specs.Domains.{Domains, target_of, pages_of}
use Rattle.call_broker.specs.Pair.{Ordered, state_after}
use Rattle.call_broker.specs.Journal.{IsDecidedOn, events}
use Rattle.call_broker.proofs.StateLaws.{IsDecidedAt, decided_first, decided_later, names_to, call_count, call_sum, call_sum_append, calls_at_most}
use Rattle.scenario_file.specs.Scenario.{Plan as Scenario, domain_of, domain_named}
use Rattle.scenario_file.specs.declared.scenario.CallPlan.{CallPlan}
use Rattle.task_duties.specs.Agent.Saying.{Asking, asking_of}
use Rattle.task_duties.proofs.Elements.{Has, tally, tally_append}
use Rattle.task_duties.proofs.JournalLaw.{asked_in}
use Rattle.run_laws.specs.Laid.{hub_of, calls_from, calls_between, is_from_to, pages_between}
use Rattle.run_laws.specs.Run.{Run, IsRun, IsHonest}
use Rattle.run_laws.proofs.Scenarios.Facts.{facts, IsCall}
use Rattle.run_laws.proofs.Scenarios.Names.{target_is_lem}
use Rattle.run_laws.proofs.Domains.Planned.{asked_planned}
use Rattle.run_laws.proofs.Domains.PortsLaw.{pages_are}

pub decided_at : (hub : Domains) (done : List Event) (journal : List Entry) (x : Entry) → IsDecidedOn hub done journal → Has journal x → IsDecidedAt hub done journal x
decided_at hub done [] x h there = absurd there
decided_at hub done (y ∷ journal) x h (inl here) = subst (λ z. IsDecidedAt hub done (y ∷ journal) z) here (decided_first hub done y journal h)
decided_at hub done (y ∷ journal) x h (inr later) = decided_later hub done y journal x (decided_at hub (done ++ y.event ∷ []) journal x h.1 later)

-- ---- the triggers to a domain, in the journal and in the plan

abbrev pub asks_to : Domains → ℕ → Asking → ℕ
asks_to hub t a = if names_to t (target_of hub a.target) then 1 else 0

journal_sum : (hub : Domains) (f t : ℕ) (journal : List Entry) → call_sum hub f t (events journal) ≡ tally (asks_to hub t) (asked_in journal f)
journal_sum hub f t [] = refl
journal_sum hub f t (x ∷ journal) = by_event x.event refl (journal_sum hub f t journal)
  where
    by_event : (e : Event) → x.event ≡ e → call_sum hub f t (events journal) ≡ tally (asks_to hub t) (asked_in journal f) → call_sum hub f t (events (x ∷ journal)) ≡ tally (asks_to hub t) (asked_in (x ∷ journal) f)
    by_event (Trigger from target service ident) is more = by_test (from == f) refl more
      where
        by_test : (b : Bool) → (from == f) ≡ b → call_sum hub f t (events journal) ≡ tally (asks_to hub t) (asked_in journal f) → call_sum hub f t (events (x ∷ journal)) ≡ tally (asks_to hub t) (asked_in (x ∷ journal) f)
        by_test true here more' = rw (is, here) (ap (λ n. (if names_to t (target_of hub target) then 1 else 0) + n) more')
        by_test false here more' = rw (is, here) (omega (arith, more'))
    by_event (Terminated from other port) is more = rw is (omega (arith, more))
    by_event (Dropped domain) is more = rw is (omega (arith, more))

prefix_sum : (g : Asking → ℕ) (xs ys : List Asking) → IsPrefixOf xs ys → tally g xs ≤ tally g ys
prefix_sum g xs ys p = let both = tally_append g xs p.0 in let all : tally g (xs ++ p.0) ≡ tally g ys = ap (tally g) p.1 in omega (arith, both, all)

names_same : (t : ℕ) (o : Option ℕ) → names_to t o ≡ option_map_or (λ d. d == t) o false
names_same t None = refl
names_same t (Some to) = refl

plan_sum : (s : Scenario) (d t : ℕ) (calls : List CallPlan) → Each (IsCall s) calls
    → tally (asks_to (hub_of s) t) (map asking_of (filter (λ call. call.from == d) calls)) ≡ length (filter (is_from_to s d t) calls)
plan_sum s d t [] each = refl
plan_sum s d t (c ∷ calls) each = by_from (c.from == d) refl (plan_sum s d t calls each.1)
  where
    named : names_to t (target_of (hub_of s) c.to) ≡ option_map_or (λ x. x == t) (domain_named s c.to) false
    named = ap (names_to t) (target_is_lem s c.to each.0.to) ∙ names_same t (domain_named s c.to)

    by_from : (b : Bool) → (c.from == d) ≡ b → tally (asks_to (hub_of s) t) (map asking_of (filter (λ call. call.from == d) calls)) ≡ length (filter (is_from_to s d t) calls)
        → tally (asks_to (hub_of s) t) (map asking_of (if b then c ∷ filter (λ call. call.from == d) calls else filter (λ call. call.from == d) calls))
        ≡ length (if b && option_map_or (λ x. x == t) (domain_named s c.to) false then c ∷ filter (is_from_to s d t) calls else filter (is_from_to s d t) calls)
    by_from false is more = more
    by_from true is more = by_name (option_map_or (λ x. x == t) (domain_named s c.to) false) refl
      where
        by_name : (b : Bool) → option_map_or (λ x. x == t) (domain_named s c.to) false ≡ b
            → asks_to (hub_of s) t (asking_of c) + tally (asks_to (hub_of s) t) (map asking_of (filter (λ call. call.from == d) calls)) ≡ length (if b then c ∷ filter (is_from_to s d t) calls else filter (is_from_to s d t) calls)
        by_name true is' = let n : names_to t (target_of (hub_of s) c.to) ≡ true = named ∙ is' in rw n (omega (arith, more))
        by_name false is' = let n : names_to t (target_of (hub_of s) c.to) ≡ false = named ∙ is' in rw n (omega (arith, more))

-- ---- a trigger finds a page

pub not_spent : (s : Scenario) (run : Run) (h : IsRun s run) (d : ℕ) (honest : IsHonest s d) (t : ℕ) → d ≢ t → is_some (domain_of s t) ≡ true → (x : Entry) (target service ident : List ℕ)
    → x.event ≡ Trigger d target service ident → target_of (hub_of s) target ≡ Some t → (at : IsDecidedAt (hub_of s) [] run.journal x)
    → (state_after (hub_of s) at.before (Ordered d t)).calls < pages_of (hub_of s) d t
not_spent s run h d honest t apart there x target service ident event named at =
    let calls = calls_at_most (hub_of s) d t at.before in
    let dd : (d == d) ≡ true = grind (arith, nat_tests) in
    let tt' : (t == t) ≡ true = grind (arith, nat_tests) in
    let one : call_count (hub_of s) d t x.event ≡ 1 = rw (event, dd, named, tt') refl in
    let split = call_sum_append (hub_of s) d t at.before (x.event ∷ at.rest) in
    let all : call_sum (hub_of s) d t (events run.journal) ≡ call_sum (hub_of s) d t (at.before ++ x.event ∷ at.rest) = ap (call_sum (hub_of s) d t) at.all in
    let asked = journal_sum (hub_of s) d t run.journal in
    let prefix = prefix_sum (asks_to (hub_of s) t) (asked_in run.journal d) (map asking_of (calls_from s d)) (asked_planned s run h d honest) in
    let plan = plan_sum s d t s.calls (facts s run h).calls in
    let count : length (filter (is_from_to s d t) s.calls) ≡ calls_between s d t = length-filter (is_from_to s d t) s.calls in
    let other : (d == t) ≡ false = grind (arith, nat_tests) in
    let plain = honest.honest in
    let between : pages_between s d t ≡ calls_between s d t = rw (other, plain) refl in
    let pages = pages_are s d t honest.there there in
    omega (arith, calls, one, split, all, asked, prefix, plan, count, between, pages)
