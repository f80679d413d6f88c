-- The lines of a scenario are those of the scenario without its hostile domains.
use Rattle.std.proofs.Common.{◌≡◌, ℕ, ◌+◌, ◌-◌, ◌<◌, suc, zero, List, [], ◌∷◌, length, take, map, refl, ap, sym, ◌∙◌, arith, ◌⊎◌, inl, inr, Option, Some, None}
use Rattle.std.specs.Prelude.{true, false, Bool, not, bytes_eq, slice_get, is_some, filter, option_map, ◌==◌, if◌then◌else◌}
use Rattle.std.specs.Option.{option_map_or}
use Rattle.std.specs.List.{AllByRecursion}
use Rattle.std.proofs.lemmas.Bool.Decides.{nat_tests}
use Rattle.scenario_file.specs.declared.scenario.Domain.{Domain}
use Rattle.scenario_file.specs.declared.scenario.CallPlan.{CallPlan}
use Rattle.scenario_file.specs.Scenario.{Plan, place_named, is_hostile, hostile_among, number_named, name_among, targets_hostile, IsHonest}
use Rattle.scenario_file.specs.Lines.{honest, number_left, call_left, calls_left, without_hostile, lines, line_among, by_domain}

-- the place, from 0 on, that is left for a place: as many as are honest before it
abbrev pub left : List Domain → ℕ → ℕ
left domains k = length (honest (take k domains))

-- an honest domain stands at the place
abbrev pub IsHonestAt : List Domain → ℕ → Type 0
IsHonestAt domains k = option_map_or is_hostile (slice_get domains k) true ≡ false

-- what a name leads to without the hostile
abbrev pub LeftNamed : List Domain → List ℕ → Option ℕ → Type 0
LeftNamed domains name None = place_named (honest domains) name ≡ None
LeftNamed domains name (Some k) = IsHonestAt domains k → place_named (honest domains) name ≡ Some (left domains k)

later : (x : Domain) (domains : List Domain) (name : List ℕ) → bytes_eq x.name name ≡ false → (b : Bool) → is_hostile x ≡ b → (o : Option ℕ) → LeftNamed domains name o
    → LeftNamed (x ∷ domains) name (option_map suc o)
later x domains name other true is None h = rw is h
later x domains name other false is None h = rw (is, other) (rw h refl)
later x domains name other true is (Some k) h = λ honest'. let here = h honest' in rw is here
later x domains name other false is (Some k) h = λ honest'. let here = h honest' in rw (is, other) (rw here refl)

first : (x : Domain) (domains : List Domain) (name : List ℕ) → bytes_eq x.name name ≡ true → LeftNamed (x ∷ domains) name (Some 0)
first x domains name here = λ honest'. rw (honest', here) refl

pub left_named : (domains : List Domain) (name : List ℕ) → LeftNamed domains name (place_named domains name)
left_named [] name = refl
left_named (x ∷ domains) name = by_name (bytes_eq x.name name) refl (left_named domains name)
  where
    by_name : (b : Bool) → bytes_eq x.name name ≡ b → LeftNamed domains name (place_named domains name) → LeftNamed (x ∷ domains) name (if b then Some 0 else option_map suc (place_named domains name))
    by_name true here more = first x domains name here
    by_name false other more = later x domains name other (is_hostile x) refl (place_named domains name) more

-- the domain of an honest place stands at the place that is left
pub at_left : (domains : List Domain) (k : ℕ) → IsHonestAt domains k → slice_get (honest domains) (left domains k) ≡ slice_get domains k
at_left [] k h = cc
at_left (x ∷ domains) zero h = rw h refl
at_left (x ∷ domains) (suc k) h = by_hostile (is_hostile x) refl (at_left domains k h)
  where
    by_hostile : (b : Bool) → is_hostile x ≡ b → slice_get (honest domains) (left domains k) ≡ slice_get domains k → slice_get (honest (x ∷ domains)) (left (x ∷ domains) (suc k)) ≡ slice_get domains k
    by_hostile true is more = rw is more
    by_hostile false is more = rw is more

-- honest places that differ are left apart
pub left_rises : (domains : List Domain) (j k : ℕ) → IsHonestAt domains j → j < k → left domains j < left domains k
left_rises [] j k h less = cc
left_rises (x ∷ domains) j zero h less = absurd (omega (arith, less))
left_rises (x ∷ domains) zero (suc k) h less = rw h (omega arith)
left_rises (x ∷ domains) (suc j) (suc k) h less = by_hostile (is_hostile x) refl (left_rises domains j k h (omega (arith, less)))
  where
    by_hostile : (b : Bool) → is_hostile x ≡ b → left domains j < left domains k → left (x ∷ domains) (suc j) < left (x ∷ domains) (suc k)
    by_hostile true is more = rw is more
    by_hostile false is more = rw is (omega (arith, more))

-- no domain that is left is hostile
pub none_hostile : (domains : List Domain) (k : ℕ) → option_map_or is_hostile (slice_get (honest domains) k) false ≡ false
none_hostile [] k = refl
none_hostile (x ∷ domains) k = by_hostile (is_hostile x) refl k (λ j. none_hostile domains j)
  where
    by_hostile : (b : Bool) → is_hostile x ≡ b → (k' : ℕ) → ((j : ℕ) → option_map_or is_hostile (slice_get (honest domains) j) false ≡ false) → option_map_or is_hostile (slice_get (honest (x ∷ domains)) k') false ≡ false
    by_hostile true is k' more = rw is (more k')
    by_hostile false is zero more = rw is is
    by_hostile false is (suc j) more = rw is (more j)

hostile_none : (domains : List Domain) (d : ℕ) → hostile_among (honest domains) d ≡ false
hostile_none domains zero = refl
hostile_none domains (suc k) = none_hostile domains k

mixed_none : (domains : List Domain) (o : Option ℕ) → option_map_or (hostile_among (honest domains)) o false ≡ false
mixed_none domains None = refl
mixed_none domains (Some d) = hostile_none domains d

-- a named place is there
pub named_there : (domains : List Domain) (name : List ℕ) (k : ℕ) → place_named domains name ≡ Some k → is_some (slice_get domains k) ≡ true
named_there [] name k h = cc
named_there (x ∷ domains) name k h = by_name (bytes_eq x.name name) (λ j is. named_there domains name j is) h
  where
    by_rest : (o : Option ℕ) → ((j : ℕ) → o ≡ Some j → is_some (slice_get domains j) ≡ true) → (k' : ℕ) → option_map suc o ≡ Some k' → is_some (slice_get (x ∷ domains) k') ≡ true
    by_rest None more k' e = cc
    by_rest (Some j) more zero e = cc
    by_rest (Some j) more (suc k') e = let same : j ≡ k' = cc in rw (← same) (more j refl)

    by_name : (b : Bool) → ((j : ℕ) → place_named domains name ≡ Some j → is_some (slice_get domains j) ≡ true) → (if b then Some 0 else option_map suc (place_named domains name)) ≡ Some k → is_some (slice_get (x ∷ domains) k) ≡ true
    by_name true more e = let zero_is : 0 ≡ k = cc in rw (← zero_is) refl
    by_name false more e = by_rest (place_named domains name) more k e

pub honest_at : (o : Option Domain) → is_some o ≡ true → option_map_or is_hostile o false ≡ false → option_map_or is_hostile o true ≡ false
honest_at None there h = cc
honest_at (Some x) there h = h

pub same_test : (domains : List Domain) (j k : ℕ) → IsHonestAt domains j → IsHonestAt domains k → (suc (left domains k) == suc (left domains j)) ≡ (suc k == suc j)
same_test domains j k hj hk = by_order (cases k j)
  where
    cases : (a b : ℕ) → (a < b) ⊎ ((a ≡ b) ⊎ (b < a))
    cases zero zero = inr (inl refl)
    cases zero (suc b) = inl (omega arith)
    cases (suc a) zero = inr (inr (omega arith))
    cases (suc a) (suc b) = up (cases a b)
      where
        up : ((a < b) ⊎ ((a ≡ b) ⊎ (b < a))) → (suc a < suc b) ⊎ ((suc a ≡ suc b) ⊎ (suc b < suc a))
        up (inl h) = inl (omega (arith, h))
        up (inr (inl h)) = inr (inl (ap suc h))
        up (inr (inr h)) = inr (inr (omega (arith, h)))

    by_order : ((k < j) ⊎ ((k ≡ j) ⊎ (j < k))) → (suc (left domains k) == suc (left domains j)) ≡ (suc k == suc j)
    by_order (inl less) =
        let rises = left_rises domains k j hk less in
        let a : (suc (left domains k) == suc (left domains j)) ≡ false = grind (arith, nat_tests) in
        let b : (suc k == suc j) ≡ false = grind (arith, nat_tests) in
        a ∙ sym b
    by_order (inr (inl is)) = rw is (let a : (suc (left domains j) == suc (left domains j)) ≡ true = grind (arith, nat_tests) in let b : (suc j == suc j) ≡ true = grind (arith, nat_tests) in a ∙ sym b)
    by_order (inr (inr less)) =
        let rises = left_rises domains j k hj less in
        let a : (suc (left domains k) == suc (left domains j)) ≡ false = grind (arith, nat_tests) in
        let b : (suc k == suc j) ≡ false = grind (arith, nat_tests) in
        a ∙ sym b

-- an honest domain keeps its name
from_name : (domains : List Domain) (d : ℕ) → IsHonest domains d → name_among (honest domains) (number_left domains d) ≡ name_among domains d
from_name domains zero h = cc
from_name domains (suc k) h = ap (λ o. option_map_or (λ domain. domain.name) o []) (at_left domains k h)

-- an honest domain is one among those that are left
pub honest_left : (domains : List Domain) (d : ℕ) → IsHonest domains d → IsHonest (honest domains) (number_left domains d)
honest_left domains zero h = cc
honest_left domains (suc k) h = rw (at_left domains k h) h

-- what a name leads to, if it isn't the name of a hostile domain
pub plain_named : (domains : List Domain) (name : List ℕ) (k : ℕ) → place_named domains name ≡ Some k → option_map_or (hostile_among domains) (Some (suc k)) false ≡ false
    → IsHonestAt domains k × (place_named (honest domains) name ≡ Some (left domains k))
plain_named domains name k is plain =
    let there = honest_at (slice_get domains k) (named_there domains name k is) plain in
    let h = left_named domains name in
    let h' = rw is at h in
    (there, h' there)

pub none_named : (domains : List Domain) (name : List ℕ) → place_named domains name ≡ None → place_named (honest domains) name ≡ None
none_named domains name is = let h = left_named domains name in rw is at h

same_result : (domains : List Domain) (call : CallPlan) → IsHonest domains call.from → (o : Option ℕ) → place_named domains call.to ≡ o → option_map_or (hostile_among domains) (option_map suc o) false ≡ false
    → by_domain (call_left domains call) (number_named (honest domains) call.to) ≡ by_domain call (option_map suc o)
same_result domains call caller None is plain =
    let none = none_named domains call.to is in
    rw none refl
same_result domains call caller (Some k) is plain = by_from call.from refl
  where
    by_from : (d : ℕ) → call.from ≡ d → by_domain (call_left domains call) (number_named (honest domains) call.to) ≡ by_domain call (Some (suc k))
    by_from zero f = let there = rw f at caller in cc
    by_from (suc j) f =
        let there = rw f at caller in
        let (at, named) = plain_named domains call.to k is plain in
        let tests = same_test domains j k there at in
        rw (named, f, tests) refl

same_line : (domains : List Domain) (call : CallPlan) → IsHonest domains call.from → targets_hostile domains call ≡ false → line_among (honest domains) (call_left domains call) ≡ line_among domains call
same_line domains call caller plain =
    let name = from_name domains call.from caller in
    let result = same_result domains call caller (place_named domains call.to) refl plain in
    rw (name, result) refl

-- over some calls
all_lines : (domains : List Domain) (calls : List CallPlan) → AllByRecursion (λ call. IsHonest domains call.from) calls
    → map (line_among (honest domains)) (filter (λ call. not (targets_hostile (honest domains) call)) (calls_left domains calls))
    ≡ map (line_among domains) (filter (λ call. not (targets_hostile domains call)) calls)
all_lines domains [] each = refl
all_lines domains (call ∷ calls) each = by_mixed (targets_hostile domains call) refl (all_lines domains calls each.1)
  where
    by_mixed : (b : Bool) → targets_hostile domains call ≡ b
        → map (line_among (honest domains)) (filter (λ c. not (targets_hostile (honest domains) c)) (calls_left domains calls)) ≡ map (line_among domains) (filter (λ c. not (targets_hostile domains c)) calls)
        → map (line_among (honest domains)) (filter (λ c. not (targets_hostile (honest domains) c)) (calls_left domains (call ∷ calls))) ≡ map (line_among domains) (filter (λ c. not (targets_hostile domains c)) (call ∷ calls))
    by_mixed true is more = rw is more
    by_mixed false is more =
        let none = mixed_none domains (number_named (honest domains) call.to) in
        let line = same_line domains call each.0 is in
        rw (is, none, line) (ap (λ r. line_among domains call ∷ r) more)

pub lines_without : (s : Plan) → AllByRecursion (λ call. IsHonest s.domains call.from) s.calls → lines (without_hostile s) ≡ lines s
lines_without s each = all_lines s.domains s.calls each

-- the number that is left, of a number that isn't 0
pub number_left_pred : (domains : List Domain) (d : ℕ) → IsHonest domains d → number_left domains d ≡ length (honest (take (d - 1) domains)) + 1
number_left_pred domains zero h = cc
number_left_pred domains (suc k) h = let less : suc k - 1 ≡ k = omega arith in rw less (omega arith)
