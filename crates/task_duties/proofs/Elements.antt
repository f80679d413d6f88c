-- What is in a list, lists without repetition, and counts, each by recursion on the list.
use Rattle.std.proofs.Common.{◌≡◌, ◌≢◌, ℕ, ◌+◌, ◌<◌, ◌≤◌, suc, zero, List, [], ◌∷◌, ◌++◌, length, map, refl, ap, sym, ◌∙◌, arith, ◌⊎◌, inl, inr, Option, Some, None, subst}
use Rattle.std.specs.Prelude.{true, false, Bool, filter, filter_map, Contains, slice_index_or, IsPermutation, if◌then◌else◌}
use Rattle.std.specs.List.{flat_map, sum_by, AllByRecursion as Each, AllZip as EachPair}
use Rattle.std.proofs.lemmas.List.Sums.{sum_by-cons}
use Rattle.std.proofs.lemmas.List.Sorted.{sum_by-IsPermutation, Contains-permutation}
use Rattle.std.proofs.lemmas.List.Elements.{Contains-append_left}
use Rattle.list_laws.specs.Lists.{IsPrefixOf, SomeOf, IsPartOf, AreDifferent}
use Rattle.list_laws.proofs.Each.{each_front}
use Rattle.task_duties.specs.Places.{numbers}

-- ---- what is in a list

abbrev pub Has : {A : Type 0} → List A → A → Type 0
Has {A} xs x = SomeOf (λ (y : A). y ≡ x) xs

has_at : {A : Type 0} (xs : List A) (x d : A) (k : ℕ) → k < length xs → slice_index_or xs k d ≡ x → Has xs x
has_at [] x d k less is = absurd (omega (arith, less))
has_at (y ∷ xs) x d zero less is = inl is
has_at (y ∷ xs) x d (suc k) less is = inr (has_at xs x d k (omega (arith, less)) is)

pub has_from : {A : Type 0} (xs : List A) (x : A) → Contains xs x → Has xs x
has_from xs x c = has_at xs x x c.0 c.1 c.2

pub contains_from : {A : Type 0} (xs : List A) (x : A) → Has xs x → Contains xs x
contains_from [] x h = absurd h
contains_from (y ∷ xs) x (inl h) = (0, omega arith, h)
contains_from (y ∷ xs) x (inr h) = let c = contains_from xs x h in (suc c.0, omega (arith, c.1), c.2)

pub each_at : {A : Type 0} (P : A → Type 0) (xs : List A) (x : A) → Each P xs → Has xs x → P x
each_at P [] x each h = absurd h
each_at P (y ∷ xs) x each (inl h) = subst P h each.0
each_at P (y ∷ xs) x each (inr h) = each_at P xs x each.1 h

pub each_of : {A : Type 0} (P : A → Type 0) (xs : List A) → ((x : A) → Has xs x → P x) → Each P xs
each_of P [] go = tt
each_of P (x ∷ xs) go = (go x (inl refl), each_of P xs (λ y h. go y (inr h)))

pub has_append : {A : Type 0} (xs ys : List A) (x : A) → Has (xs ++ ys) x → Has xs x ⊎ Has ys x
has_append [] ys x h = inr h
has_append (y ∷ xs) ys x (inl h) = inl (inl h)
has_append (y ∷ xs) ys x (inr h) = by_rest (has_append xs ys x h)
  where
    by_rest : Has xs x ⊎ Has ys x → Has (y ∷ xs) x ⊎ Has ys x
    by_rest (inl a) = inl (inr a)
    by_rest (inr b) = inr b

pub has_left : {A : Type 0} (xs ys : List A) (x : A) → Has xs x → Has (xs ++ ys) x
has_left [] ys x h = absurd h
has_left (y ∷ xs) ys x (inl h) = inl h
has_left (y ∷ xs) ys x (inr h) = inr (has_left xs ys x h)

pub has_right : {A : Type 0} (xs ys : List A) (x : A) → Has ys x → Has (xs ++ ys) x
has_right [] ys x h = h
has_right (y ∷ xs) ys x h = inr (has_right xs ys x h)

pub has_prefix : {A : Type 0} (xs ys : List A) (x : A) → IsPrefixOf xs ys → Has xs x → Has ys x
has_prefix xs ys x p h = subst (λ l. Has l x) p.1 (has_left xs p.0 x h)

-- the element before a map, a filter, a filter_map and a flat_map
pub record Comes (A : Type 0) (xs : List A) (P : A → Type 0) : Type 0 where
  pub one : A
  pub there : Has xs one
  pub is : P one

pub has_map : {A B : Type 0} (f : A → B) (xs : List A) (y : B) → Has (map f xs) y → Comes A xs (λ x. f x ≡ y)
has_map f [] y h = absurd h
has_map f (x ∷ xs) y (inl h) = record { one = x; there = inl refl; is = h }
has_map f (x ∷ xs) y (inr h) = let c = has_map f xs y h in record { one = c.one; there = inr c.there; is = c.is }

pub has_map_back : {A B : Type 0} (f : A → B) (xs : List A) (x : A) → Has xs x → Has (map f xs) (f x)
has_map_back f [] x h = absurd h
has_map_back f (y ∷ xs) x (inl h) = inl (ap f h)
has_map_back f (y ∷ xs) x (inr h) = inr (has_map_back f xs x h)

pub has_filter : {A : Type 0} (p : A → Bool) (xs : List A) (y : A) → Has (filter p xs) y → Has xs y × (p y ≡ true)
has_filter p [] y h = absurd h
has_filter p (x ∷ xs) y h = by_test (p x) refl (λ k. has_filter p xs y k) h
  where
    by_rest : Has xs y × (p y ≡ true) → Has (x ∷ xs) y × (p y ≡ true)
    by_rest r = (inr r.0, r.1)

    by_test : (b : Bool) → p x ≡ b → (Has (filter p xs) y → Has xs y × (p y ≡ true)) → Has (if b then x ∷ filter p xs else filter p xs) y → Has (x ∷ xs) y × (p y ≡ true)
    by_test true is more (inl e) = (inl e, ap p (sym e) ∙ is)
    by_test true is more (inr k) = by_rest (more k)
    by_test false is more k = by_rest (more k)

pub has_filter_back : {A : Type 0} (p : A → Bool) (xs : List A) (y : A) → Has xs y → p y ≡ true → Has (filter p xs) y
has_filter_back p [] y h is = absurd h
has_filter_back p (x ∷ xs) y (inl h) is = let here : p x ≡ true = ap p h ∙ is in rw here (inl h)
has_filter_back p (x ∷ xs) y (inr h) is = by_test (p x) (has_filter_back p xs y h is)
  where
    by_test : (b : Bool) → Has (filter p xs) y → Has (if b then x ∷ filter p xs else filter p xs) y
    by_test true k = inr k
    by_test false k = k

pub has_filter_map : {A B : Type 0} (g : A → Option B) (xs : List A) (y : B) → Has (filter_map g xs) y → Comes A xs (λ x. g x ≡ Some y)
has_filter_map g [] y h = absurd h
has_filter_map {A} {B} g (x ∷ xs) y h = by_option (g x) refl (λ k. has_filter_map g xs y k) h
  where
    by_rest : Comes A xs (λ z. g z ≡ Some y) → Comes A (x ∷ xs) (λ z. g z ≡ Some y)
    by_rest c = record { one = c.one; there = inr c.there; is = c.is }

    by_either : (b : B) → g x ≡ Some b → (Has (filter_map g xs) y → Comes A xs (λ z. g z ≡ Some y)) → (b ≡ y) ⊎ Has (filter_map g xs) y → Comes A (x ∷ xs) (λ z. g z ≡ Some y)
    by_either b is more (inl e) = record { one = x; there = inl refl; is = is ∙ ap Some e }
    by_either b is more (inr k) = by_rest (more k)

    by_option : (o : Option B) → g x ≡ o → (Has (filter_map g xs) y → Comes A xs (λ z. g z ≡ Some y)) → Has (filter_map g (x ∷ xs)) y → Comes A (x ∷ xs) (λ z. g z ≡ Some y)
    by_option None is more k = let k' = rw is at k in by_rest (more k')
    by_option (Some b) is more k = let k' = rw is at k in by_either b is more k'

pub has_filter_map_back : {A B : Type 0} (g : A → Option B) (xs : List A) (x : A) (y : B) → Has xs x → g x ≡ Some y → Has (filter_map g xs) y
has_filter_map_back g [] x y h is = absurd h
has_filter_map_back g (z ∷ xs) x y (inl h) is = let here : g z ≡ Some y = ap g h ∙ is in rw here (inl refl)
has_filter_map_back {A} {B} g (z ∷ xs) x y (inr h) is = by_option (g z) refl (has_filter_map_back g xs x y h is)
  where
    by_option : (o : Option B) → g z ≡ o → Has (filter_map g xs) y → Has (filter_map g (z ∷ xs)) y
    by_option None none k = rw none k
    by_option (Some b) some k = rw some (inr k)

pub has_flat_map : {A B : Type 0} (g : A → List B) (xs : List A) (y : B) → Has (flat_map g xs) y → Comes A xs (λ x. Has (g x) y)
has_flat_map g [] y h = absurd h
has_flat_map {A} {B} g (x ∷ xs) y h = by_part (λ k. has_flat_map g xs y k) (has_append (g x) (flat_map g xs) y h)
  where
    by_part : (Has (flat_map g xs) y → Comes A xs (λ z. Has (g z) y)) → Has (g x) y ⊎ Has (flat_map g xs) y → Comes A (x ∷ xs) (λ z. Has (g z) y)
    by_part more (inl k) = record { one = x; there = inl refl; is = k }
    by_part more (inr k) = let c = more k in record { one = c.one; there = inr c.there; is = c.is }

pub has_flat_map_back : {A B : Type 0} (g : A → List B) (xs : List A) (x : A) (y : B) → Has xs x → Has (g x) y → Has (flat_map g xs) y
has_flat_map_back g [] x y h k = absurd h
has_flat_map_back g (z ∷ xs) x y (inl h) k = has_left (g z) (flat_map g xs) y (subst (λ w. Has (g w) y) (sym h) k)
has_flat_map_back g (z ∷ xs) x y (inr h) k = has_right (g z) (flat_map g xs) y (has_flat_map_back g xs x y h k)

pub has_part : {A : Type 0} (some all : List A) (x : A) → IsPartOf some all → Has some x → Has all x
has_part some all x part h = has_from all x (Contains-permutation (some ++ part.0) all x part.1 (Contains-append_left some part.0 x (contains_from some x h)))

-- the partner of an element
pub pair_of : {A B : Type 0} (R : A → B → Type 0) (xs : List A) (ys : List B) (x : A) → EachPair R xs ys → Has xs x → Comes B ys (λ y. R x y)
pair_of R [] ys x each h = absurd h
pair_of R (z ∷ xs) [] x each h = absurd each
pair_of R (z ∷ xs) (y ∷ ys) x each (inl h) = record { one = y; there = inl refl; is = subst (λ w. R w y) h each.0 }
pair_of R (z ∷ xs) (y ∷ ys) x each (inr h) = let c = pair_of R xs ys x each.1 h in record { one = c.one; there = inr c.there; is = c.is }

-- ---- lists without repetition

differ_left : {A : Type 0} (xs ys : List A) → AreDifferent (xs ++ ys) → AreDifferent xs
differ_left [] ys d = tt
differ_left {A} (x ∷ xs) ys d = (each_front (λ (y : A). x ≢ y) xs ys d.0, differ_left xs ys d.1)

pub differ_prefix : {A : Type 0} (xs ys : List A) → IsPrefixOf xs ys → AreDifferent ys → AreDifferent xs
differ_prefix xs ys p d = differ_left xs p.0 (subst (λ l. AreDifferent l) (sym p.1) d)

-- two elements with one key are the same
pub one_of : {A B : Type 0} (g : A → Option B) (xs : List A) → AreDifferent (filter_map g xs) → (x y : A) (b : B) → Has xs x → Has xs y → g x ≡ Some b → g y ≡ Some b → x ≡ y
one_of g [] d x y b hx hy gx gy = absurd hx
one_of {A} {B} g (z ∷ xs) d x y b hx hy gx gy = by_places (λ d' a c. one_of g xs d' x y b a c gx gy) hx hy
  where
    rest : AreDifferent (filter_map g xs)
    rest = by_option (g z) refl d
      where
        by_option : (o : Option B) → g z ≡ o → AreDifferent (filter_map g (z ∷ xs)) → AreDifferent (filter_map g xs)
        by_option None is k = let k' = rw is at k in k'
        by_option (Some c) is k = let k' = rw is at k in k'.1

    never : (w : A) → g z ≡ Some b → Has xs w → g w ≡ Some b → ⊥
    never w here h is = let k = rw here at d in each_at (λ (c : B). b ≢ c) (filter_map g xs) b k.0 (has_filter_map_back g xs w b h is) refl

    by_places : (AreDifferent (filter_map g xs) → Has xs x → Has xs y → x ≡ y) → (z ≡ x) ⊎ Has xs x → (z ≡ y) ⊎ Has xs y → x ≡ y
    by_places more (inl a) (inl c) = sym a ∙ c
    by_places more (inl a) (inr c) = absurd (never y (ap g a ∙ gx) c gy)
    by_places more (inr a) (inl c) = absurd (never x (ap g c ∙ gy) a gx)
    by_places more (inr a) (inr c) = more rest a c

pub one_key : {A B : Type 0} (key : A → B) (xs : List A) → AreDifferent (map key xs) → (x y : A) → Has xs x → Has xs y → key x ≡ key y → x ≡ y
one_key key [] d x y hx hy same = absurd hx
one_key {A} {B} key (z ∷ xs) d x y hx hy same = by_places (λ a c. one_key key xs d.1 x y a c same) hx hy
  where
    never : (w : A) → Has xs w → key z ≡ key w → ⊥
    never w h is = each_at (λ (c : B). key z ≢ c) (map key xs) (key w) d.0 (has_map_back key xs w h) is

    by_places : (Has xs x → Has xs y → x ≡ y) → (z ≡ x) ⊎ Has xs x → (z ≡ y) ⊎ Has xs y → x ≡ y
    by_places more (inl a) (inl c) = sym a ∙ c
    by_places more (inl a) (inr c) = absurd (never y c (ap key a ∙ same))
    by_places more (inr a) (inl c) = absurd (never x a (ap key c ∙ sym same))
    by_places more (inr a) (inr c) = more a c

above_numbers : (low from count : ℕ) → low < from → Each (λ (y : ℕ). low ≢ y) (numbers from 2 count)
above_numbers low from zero less = tt
above_numbers low from (suc count) less = ((λ e. absurd (omega (arith, e, less))), above_numbers low (from + 2) count (omega (arith, less)))

pub differ_numbers : (from count : ℕ) → AreDifferent (numbers from 2 count)
differ_numbers from zero = tt
differ_numbers from (suc count) = (above_numbers from (from + 2) count (omega arith), differ_numbers (from + 2) count)

-- ---- a sum over a list

abbrev pub tally : {A : Type 0} → (A → ℕ) → List A → ℕ
tally f [] = 0
tally f (x ∷ xs) = f x + tally f xs

tally_is : {A : Type 0} (f : A → ℕ) (xs : List A) → sum_by f xs ≡ tally f xs
tally_is f [] = refl
tally_is f (x ∷ xs) = sum_by-cons f x xs ∙ ap (λ n. f x + n) (tally_is f xs)

pub tally_append : {A : Type 0} (f : A → ℕ) (xs ys : List A) → tally f (xs ++ ys) ≡ tally f xs + tally f ys
tally_append f [] ys = omega arith
tally_append f (x ∷ xs) ys = omega (arith, tally_append f xs ys)

pub tally_permuted : {A : Type 0} (f : A → ℕ) (xs ys : List A) → IsPermutation xs ys → tally f xs ≡ tally f ys
tally_permuted f xs ys p = sym (tally_is f xs) ∙ sym (sum_by-IsPermutation f xs ys p) ∙ tally_is f ys

pub tally_part : {A : Type 0} (f : A → ℕ) (some all : List A) → IsPartOf some all → tally f some ≤ tally f all
tally_part f some all part = omega (arith, tally_append f some part.0, tally_permuted f (some ++ part.0) all part.1)

pub tally_none : {A : Type 0} (f : A → ℕ) (xs : List A) → tally f xs ≡ 0 → Each (λ x. f x ≡ 0) xs
tally_none f [] h = tt
tally_none f (x ∷ xs) h = (omega (arith, h), tally_none f xs (omega (arith, h)))

pub tally_zero : {A : Type 0} (f : A → ℕ) (xs : List A) → Each (λ x. f x ≡ 0) xs → tally f xs ≡ 0
tally_zero f [] h = refl
tally_zero f (x ∷ xs) h = omega (arith, h.0, tally_zero f xs h.1)
