-- Elements by their places.
use Rattle.std.proofs.Common.{◌≡◌, ℕ, zero, suc, List, [], ◌∷◌, set, refl, Some, ◌≢◌, ap, ◌⊎◌, inl, inr, arith, None, ◌++◌, length, ◌+◌, map, ◌∙◌, ◌<◌, take, sym, subst, get_or}
use Rattle.std.specs.Prelude.{slice_get, option_map}
use Rattle.std.proofs.lemmas.Option.{none-some, same_Some, slice_get-map}

pub get_set_same : {A : Type 0} (xs : List A) (i : ℕ) (x y : A) → slice_get xs i ≡ Some x → slice_get (set xs i y) i ≡ Some y
get_set_same [] i x y h = cc
get_set_same (z ∷ xs) zero x y h = refl
get_set_same (z ∷ xs) (suc i) x y h = get_set_same xs i x y h

pub get_set_other : {A : Type 0} (xs : List A) (i j : ℕ) (y : A) → j ≢ i → slice_get (set xs i y) j ≡ slice_get xs j
get_set_other [] i j y apart = refl
get_set_other (z ∷ xs) zero zero y apart = absurd (apart refl)
get_set_other (z ∷ xs) zero (suc j) y apart = refl
get_set_other (z ∷ xs) (suc i) zero y apart = refl
get_set_other (z ∷ xs) (suc i) (suc j) y apart = get_set_other xs i j y (λ e. apart (ap suc e))

-- an element of a list that was changed at one place
pub get_set : {A : Type 0} (xs : List A) (i k : ℕ) (y x : A) → slice_get (set xs i y) k ≡ Some x → ((k ≡ i) × (y ≡ x)) ⊎ ((k ≢ i) × (slice_get xs k ≡ Some x))
get_set [] i k y x is = absurd (none-some x is)
get_set (z ∷ xs) zero zero y x is = inl (refl, same_Some y x is)
get_set (z ∷ xs) zero (suc k) y x is = inr ((λ e. absurd (omega (arith, e))), is)
get_set (z ∷ xs) (suc i) zero y x is = inr ((λ e. absurd (omega (arith, e))), is)
get_set (z ∷ xs) (suc i) (suc k) y x is = up (get_set xs i k y x is)
  where
    up : ((k ≡ i) × (y ≡ x)) ⊎ ((k ≢ i) × (slice_get xs k ≡ Some x)) → ((suc k ≡ suc i) × (y ≡ x)) ⊎ ((suc k ≢ suc i) × (slice_get xs k ≡ Some x))
    up (inl e) = inl (ap suc e.0, e.1)
    up (inr e) = inr ((λ s. e.0 (omega (arith, s))), e.1)

pub set_same : {A : Type 0} (xs : List A) (i : ℕ) (x : A) → slice_get xs i ≡ Some x → set xs i x ≡ xs
set_same [] i x h = refl
set_same (z ∷ xs) zero x h = let e : x ≡ z = cc in ap (λ w. w ∷ xs) e
set_same (z ∷ xs) (suc i) x h = ap (λ ws. z ∷ ws) (set_same xs i x h)

-- an element of a list with one more is one of the list, or the last one
pub get_push : {A : Type 0} (xs : List A) (y : A) (i : ℕ) (x : A) → slice_get (xs ++ y ∷ []) i ≡ Some x → (slice_get xs i ≡ Some x) ⊎ ((i ≡ length xs) × (y ≡ x))
get_push [] y zero x h = inr (refl, cc)
get_push [] y (suc i) x h = cc
get_push (z ∷ xs) y zero x h = inl h
get_push (z ∷ xs) y (suc i) x h = later (get_push xs y i x h)
  where
    later : (slice_get xs i ≡ Some x) ⊎ ((i ≡ length xs) × (y ≡ x)) → (slice_get xs i ≡ Some x) ⊎ ((suc i ≡ suc (length xs)) × (y ≡ x))
    later (inl k) = inl k
    later (inr k) = inr (ap suc k.0, k.1)

pub get_push_before : {A : Type 0} (xs : List A) (y : A) (i : ℕ) (x : A) → slice_get xs i ≡ Some x → slice_get (xs ++ y ∷ []) i ≡ Some x
get_push_before [] y i x h = cc
get_push_before (z ∷ xs) y zero x h = h
get_push_before (z ∷ xs) y (suc i) x h = get_push_before xs y i x h

pub get_push_last : {A : Type 0} (xs : List A) (y : A) → slice_get (xs ++ y ∷ []) (length xs) ≡ Some y
get_push_last [] y = refl
get_push_last (z ∷ xs) y = get_push_last xs y

pub get_front : {A : Type 0} (xs ys : List A) (i : ℕ) (x : A) → slice_get xs i ≡ Some x → slice_get (xs ++ ys) i ≡ Some x
get_front [] ys i x there = cc
get_front (z ∷ xs) ys zero x there = there
get_front (z ∷ xs) ys (suc i) x there = get_front xs ys i x there

-- an element of a mapped list comes from one of the list
pub get_map_back : {A B : Type 0} (f : A → B) (xs : List A) (i : ℕ) (y : B) → slice_get (map f xs) i ≡ Some y → (x : A) × (slice_get xs i ≡ Some x) × (f x ≡ y)
get_map_back f [] i y h = cc
get_map_back f (x ∷ xs) zero y h = (x, refl, cc)
get_map_back f (x ∷ xs) (suc i) y h = get_map_back f xs i y h

pub get_map : {A B : Type 0} (f : A → B) (xs : List A) (i : ℕ) (x : A) → slice_get xs i ≡ Some x → slice_get (map f xs) i ≡ Some (f x)
get_map f xs i x h = slice_get-map f xs i ∙ ap (option_map f) h

-- a map whose function doesn't see a change at a place
pub map_set_same : {A B : Type 0} (f : A → B) (xs : List A) (i : ℕ) (x y : A) → slice_get xs i ≡ Some x → f y ≡ f x → map f (set xs i y) ≡ map f xs
map_set_same f [] i x y h same = refl
map_set_same f (z ∷ xs) zero x y h same = let e : x ≡ z = cc in ap (λ w. w ∷ map f xs) (same ∙ ap f e)
map_set_same f (z ∷ xs) (suc i) x y h same = ap (λ ws. f z ∷ ws) (map_set_same f xs i x y h same)

pub get_within : {A : Type 0} (xs : List A) (i : ℕ) → i < length xs → (x : A) × (slice_get xs i ≡ Some x)
get_within [] i less = absurd (omega (arith, less))
get_within (y ∷ xs) zero less = (y, refl)
get_within (y ∷ xs) (suc i) less = get_within xs i (omega (arith, less))

pub take_next : {A : Type 0} (xs : List A) (k : ℕ) (x : A) → slice_get xs k ≡ Some x → take (k + 1) xs ≡ take k xs ++ x ∷ []
take_next [] k x is = absurd (let e : None ≡ Some x = is in cc)
take_next (y ∷ xs) zero x is = ap (λ z. z ∷ []) (let e : Some y ≡ Some x = is in cc)
take_next (y ∷ xs) (suc k) x is = (let e : suc k + 1 ≡ suc (k + 1) = omega arith in subst (λ n. take n (y ∷ xs) ≡ y ∷ (take k xs ++ x ∷ [])) (sym e) (ap (λ l. y ∷ l) (take_next xs k x is)))

-- one element, read with either default
pub same_read : {A : Type 0} (xs : List A) (i : ℕ) (x y : A) → i < length xs → x ≡ get_or xs i x → y ≡ get_or xs i y → x ≡ y
same_read [] i x y less a b = absurd (omega (arith, less))
same_read (z ∷ xs) zero x y less a b = a ∙ sym b
same_read (z ∷ xs) (suc i) x y less a b = same_read xs i x y (omega (arith, less)) a b
