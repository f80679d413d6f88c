-- No two pages of a scenario lie at one place.
use Rattle.std.proofs.Common.{◌≡◌, ◌≢◌, ◌⊎◌, inl, inr, ℕ, zero, suc, ◌+◌, ◌<◌, List, [], ◌∷◌, ◌++◌, map, refl, ap, sym, ◌∙◌, subst, arith, Some}
use Rattle.std.specs.Prelude.{Bool, true, false, filter, slice_get}
use Rattle.std.specs.List.{flat_map, AllByRecursion as Each}
use Rattle.std.proofs.lemmas.Option.{none-some}
use Rattle.list_laws.specs.Lists.{AreDifferent}
use Rattle.scenario_file.specs.Scenario.{Plan as Scenario}
use Rattle.task_duties.specs.declared.place.PagePlace.{PagePlace}
use Rattle.task_duties.specs.declared.place.PagePlace.TheVariants.{Control, Payload}
use Rattle.task_duties.specs.Places.{is_place, numbers}
use Rattle.task_duties.proofs.Elements.{Has, differ_numbers, each_at, each_of, has_append, has_filter, has_flat_map, has_map}
use Rattle.task_duties.proofs.ServedLaw.{same_place}
use Rattle.agent_slots.specs.Slots.{AreApart}
use Rattle.hostile_task.specs.Plan.{AreApart as AreAllApart}
use Rattle.run_laws.specs.Laid.{all_domains, is_end_of, laid, laid_between, places_of, ports_between}

-- ---- lists without repetition

differ_append : {A : Type 0} (xs ys : List A) → AreDifferent xs → AreDifferent ys → ((x y : A) → Has xs x → Has ys y → x ≢ y) → AreDifferent (xs ++ ys)
differ_append [] ys first second apart = second
differ_append {A} (x ∷ xs) ys first second apart = (
  each_of (λ (y : A). x ≢ y) (xs ++ ys) (λ y h. by_part y (has_append xs ys y h)),
  differ_append xs ys first.1 second (λ a b h k. apart a b (inr h) k),
)
  where
    by_part : (y : A) → Has xs y ⊎ Has ys y → x ≢ y
    by_part y (inl h) = each_at (λ (z : A). x ≢ z) xs y first.0 h
    by_part y (inr h) = apart x y (inl refl) h

differ_map : {A B : Type 0} (f : A → B) (xs : List A) → ((x y : A) → f x ≡ f y → x ≡ y) → AreDifferent xs → AreDifferent (map f xs)
differ_map f [] injective differ = tt
differ_map {A} {B} f (x ∷ xs) injective differ = (
  each_of (λ (y : B). f x ≢ y) (map f xs) (λ y h e. (let c = has_map f xs y h in each_at (λ (z : A). x ≢ z) xs c.one differ.0 c.there (injective x c.one (e ∙ sym c.is)))),
  differ_map f xs injective differ.1,
)

-- the lists of different elements have no element in common, since a key tells which list it is of
differ_flat : {A B : Type 0} (g : A → List B) (key : B → A) (xs : List A) → ((x : A) (y : B) → Has (g x) y → key y ≡ x) → ((x : A) → AreDifferent (g x)) → AreDifferent xs → AreDifferent (flat_map g xs)
differ_flat g key [] tells each differ = tt
differ_flat {A} {B} g key (x ∷ xs) tells each differ =
    differ_append (g x) (flat_map g xs) (each x) (differ_flat g key xs tells each differ.1) (λ a b h k e.
    (let c = has_flat_map g xs b k in
    each_at (λ (z : A). x ≢ z) xs c.one differ.0 c.there (sym (tells x a h) ∙ ap key e ∙ tells c.one b c.is)))

differ_filter : {A : Type 0} (p : A → Bool) (xs : List A) → AreDifferent xs → AreDifferent (filter p xs)
differ_filter p [] differ = tt
differ_filter {A} p (x ∷ xs) differ = by (p x) refl (differ_filter p xs differ.1)
  where
    by : (b : Bool) → p x ≡ b → AreDifferent (filter p xs) → AreDifferent (filter p (x ∷ xs))
    by true is rest = rw is (each_of (λ (y : A). x ≢ y) (filter p xs) (λ y h. each_at (λ (z : A). x ≢ z) xs y differ.0 (has_filter p xs y h).0), rest)
    by false is rest = rw is rest

above : (low from count : ℕ) → low < from → Each (λ (y : ℕ). low ≢ y) (numbers from 1 count)
above low from zero less = tt
above low from (suc count) less = ((λ e. absurd (omega (arith, e, less))), above low (from + 1) count (omega (arith, less)))

differ_domains : (from count : ℕ) → AreDifferent (numbers from 1 count)
differ_domains from zero = tt
differ_domains from (suc count) = (above from (from + 1) count (omega arith), differ_domains (from + 1) count)

-- ---- the pages of a scenario

-- the two domains of a data page; a control page has none
abbrev from_of : PagePlace → ℕ
from_of (Control d) = 0
from_of (Payload from to port) = from

abbrev to_of : PagePlace → ℕ
to_of (Control d) = 0
to_of (Payload from to port) = to

control_same : (a b : ℕ) → Control a ≡ Control b → a ≡ b
control_same a b e = cc

payload_same : (from to a b : ℕ) → Payload from to a ≡ Payload from to b → a ≡ b
payload_same from to a b e = cc

between_to : (s : Scenario) (from to : ℕ) (place : PagePlace) → Has (laid_between s from to) place → to_of place ≡ to
between_to s from to place h = let c = has_map (Payload from to) (ports_between s from to) place h in ap to_of (sym c.is)

between_from : (s : Scenario) (from to : ℕ) (place : PagePlace) → Has (laid_between s from to) place → from_of place ≡ from
between_from s from to place h = let c = has_map (Payload from to) (ports_between s from to) place h in ap from_of (sym c.is)

abbrev laid_from : Scenario → ℕ → List PagePlace
laid_from s from = flat_map (laid_between s from) (all_domains s)

all_from : (s : Scenario) (from : ℕ) (place : PagePlace) → Has (laid_from s from) place → from_of place ≡ from
all_from s from place h = let c = has_flat_map (laid_between s from) (all_domains s) place h in between_from s from c.one place c.is

no_control : (s : Scenario) (d : ℕ) (place : PagePlace) → Has (flat_map (laid_from s) (all_domains s)) place → Control d ≢ place
no_control s d place h e =
    let a = has_flat_map (laid_from s) (all_domains s) place h in
    let b = has_flat_map (laid_between s a.one) (all_domains s) place a.is in
    let c = has_map (Payload a.one b.one) (ports_between s a.one b.one) place b.is in
    let both : Payload a.one b.one c.one ≡ Control d = c.is ∙ sym e in cc

pub laid_differ : (s : Scenario) → AreDifferent (laid s)
laid_differ s =
    differ_append (map Control (all_domains s)) (flat_map (laid_from s) (all_domains s))
    (differ_map Control (all_domains s) control_same domains)
    (differ_flat (laid_from s) from_of (all_domains s) (all_from s) (λ from.
    differ_flat (laid_between s from) to_of (all_domains s) (between_to s from) (λ to.
    differ_map (Payload from to) (ports_between s from to) (payload_same from to) (differ_numbers _ _)) domains) domains)
    (λ x y h k. (let c = has_map Control (all_domains s) x h in subst (λ z. z ≢ y) c.is (no_control s c.one y k)))
  where
    domains : AreDifferent (all_domains s)
    domains = differ_domains 1 _

-- no two pages of one domain lie at one place
pub places_differ : (s : Scenario) (d : ℕ) → AreDifferent (places_of s d)
places_differ s d = differ_filter (is_end_of d) (laid s) (laid_differ s)

-- ---- the same in other crates' forms

has_place : (places : List PagePlace) (k : ℕ) (p : PagePlace) → slice_get places k ≡ Some p → Has places p
has_place [] k p is = absurd (none-some p is)
has_place (q ∷ places) zero p is = inl (let e : Some q ≡ Some p = is in cc)
has_place (q ∷ places) (suc k) p is = inr (has_place places k p is)

first_is : (q p : PagePlace) → Some q ≡ Some p → q ≡ p
first_is q p e = cc

pub apart_by_index : (places : List PagePlace) → AreDifferent places → AreApart places
apart_by_index [] differ i j p at at' = absurd (none-some p at)
apart_by_index (q ∷ places) differ zero zero p at at' = refl
apart_by_index (q ∷ places) differ zero (suc j) p at at' = absurd (each_at (λ (x : PagePlace). q ≢ x) places p differ.0 (has_place places j p at') (first_is q p at))
apart_by_index (q ∷ places) differ (suc i) zero p at at' = absurd (each_at (λ (x : PagePlace). q ≢ x) places p differ.0 (has_place places i p at) (first_is q p at'))
apart_by_index (q ∷ places) differ (suc i) (suc j) p at at' = ap suc (apart_by_index places differ.1 i j p at at')

not_same : (p q : PagePlace) → p ≢ q → is_place p q ≡ false
not_same p q apart = by (is_place p q) refl
  where
    by : (b : Bool) → is_place p q ≡ b → is_place p q ≡ false
    by true is = absurd (apart (same_place p q is))
    by false is = is

pub all_apart_lem : (places : List PagePlace) → AreDifferent places → AreAllApart places
all_apart_lem [] differ = tt
all_apart_lem (p ∷ places) differ = (
  each_of (λ (q : PagePlace). is_place p q ≡ false) places (λ q h. not_same p q (each_at (λ (x : PagePlace). p ≢ x) places q differ.0 h)),
  all_apart_lem places differ.1,
)
