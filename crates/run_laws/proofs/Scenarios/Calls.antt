-- The calls of a domain in a scenario: what each keeps, and that their idents differ.
use Rattle.std.proofs.Common.{◌≡◌, ◌≢◌, ℕ, ◌<◌, ◌^◌, suc, List, [], ◌∷◌, length, map, arith}
use Rattle.std.specs.Prelude.{true, false, Bool, ◌==◌, filter, slice_index_or, AllPairs, decimal, if◌then◌else◌}
use Rattle.std.proofs.lemmas.Bool.Decides.{nat_tests}
use Rattle.std.proofs.lemmas.Fmt.{decimal_injective}
use Rattle.std.specs.List.{AllByRecursion as Each}
use Rattle.list_laws.specs.Lists.{AreDifferent}
use Rattle.list_laws.proofs.Each.{each_filter}
use Rattle.scenario_file.specs.Scenario.{Plan as Scenario}
use Rattle.scenario_file.specs.declared.scenario.CallPlan.{CallPlan}
use Rattle.task_duties.specs.Words.{ident_of}
use Rattle.task_duties.proofs.Elements.{Has, has_filter, each_at}
use Rattle.run_laws.specs.Laid.{calls_from}
use Rattle.run_laws.proofs.Scenarios.Facts.{IsClean, IsCall}

-- ---- a relation of each two elements, by recursion

abbrev pub OrderedBy : {A : Type 0} → (A → A → Type 0) → List A → Type 0
OrderedBy R [] = Unit {0}
OrderedBy R (x ∷ xs) = Each (R x) xs × OrderedBy R xs

each_index : {A : Type 0} (P : A → Type 0) (xs : List A) → ((k : ℕ) (d : A) → k < length xs → P (slice_index_or xs k d)) → Each P xs
each_index P [] go = tt
each_index P (x ∷ xs) go = (go 0 x (omega arith), each_index P xs (λ k d less. go (suc k) d (omega (arith, less))))

pub ordered_from : {A : Type 0} (R : A → A → Type 0) (xs : List A) → AllPairs R xs → OrderedBy R xs
ordered_from R [] h = tt
ordered_from R (x ∷ xs) h = (each_index (R x) xs (λ k d less. h 0 (suc k) d (omega arith) (omega (arith, less))), ordered_from R xs (λ i j d less small. h (suc i) (suc j) d (omega (arith, less)) (omega (arith, small))))

pub ordered_left : {A : Type 0} (R : A → A → Type 0) (p : A → Bool) (xs : List A) → OrderedBy R xs → OrderedBy R (filter p xs)
ordered_left R p [] h = tt
ordered_left R p (x ∷ xs) h = by_test (p x) (ordered_left R p xs h.1)
  where
    by_test : (b : Bool) → OrderedBy R (filter p xs) → OrderedBy R (if b then x ∷ filter p xs else filter p xs)
    by_test true more = (each_filter (R x) p xs h.0, more)
    by_test false more = more

-- ---- idents

pub ident_number : (m n : ℕ) → m < 2 ^ 64 → n < 2 ^ 64 → ident_of m ≡ ident_of n → m ≡ n
ident_number m n small_m small_n same = let digits : decimal m ≡ decimal n = cc in decimal_injective m n small_m small_n digits

abbrev pub idents : List CallPlan → List (List ℕ)
idents calls = map (λ c. ident_of c.number) calls

others : (x : CallPlan) (xs : List CallPlan) → x.number < 2 ^ 64 → Each (λ c. c.number < 2 ^ 64) xs → Each (λ y. x.number < y.number) xs → Each (λ (i : List ℕ). ident_of x.number ≢ i) (idents xs)
others x [] small smalls less = tt
others x (y ∷ xs) small smalls less = ((λ same. let e = ident_number x.number y.number small smalls.0 same in let l = less.0 in absurd (omega (arith, e, l))), others x xs small smalls.1 less.1)

idents_differ : (calls : List CallPlan) → Each (λ c. c.number < 2 ^ 64) calls → OrderedBy (λ a b. a.number < b.number) calls → AreDifferent (idents calls)
idents_differ [] small h = tt
idents_differ (x ∷ xs) small h = (others x xs small.0 small.1 h.0, idents_differ xs small.1 h.1)

each_small : (s : Scenario) (calls : List CallPlan) → Each (IsCall s) calls → Each (λ c. c.number < 2 ^ 64) calls
each_small s [] each = tt
each_small s (c ∷ calls) each = (each.0.number_small, each_small s calls each.1)

pub calls_differ : (s : Scenario) → IsClean s → (d : ℕ) → AreDifferent (idents (calls_from s d))
calls_differ s h d =
    idents_differ (calls_from s d) (each_filter (λ c. c.number < 2 ^ 64) (λ call. call.from == d) s.calls (each_small s s.calls h.calls))
    (ordered_left (λ a b. a.number < b.number) (λ call. call.from == d) s.calls (ordered_from (λ a b. a.number < b.number) s.calls h.numbers_rise))

-- ---- a call of a domain

pub record IsOwnCall (s : Scenario) (d : ℕ) (call : CallPlan) : Type 0 where
  pub from : call.from ≡ d
  pub there : Has s.calls call
  pub well : IsCall s call

pub own_call : (s : Scenario) → IsClean s → (d : ℕ) (call : CallPlan) → Has (calls_from s d) call → IsOwnCall s d call
own_call s h d call there =
    let both = has_filter (λ c. c.from == d) s.calls call there in
    record { from = (let e = both.1 in grind (arith, nat_tests, e)); there = both.0; well = each_at (IsCall s) s.calls call h.calls both.0 }
