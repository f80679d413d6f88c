-- What holds of each element of a list, or of some.
use Rattle.std.proofs.Common.{List, [], ◌∷◌, ◌++◌, ◌+◌, map, ◌≡◌, ℕ, zero, suc, Some, subst, set, ◌<◌, length, get_or, arith, slice_index_or, refl, inl, inr}
use Rattle.std.specs.List.{AllByRecursion as Each}
use Rattle.std.specs.Prelude.{true, false, Bool, filter, if◌then◌else◌, slice_get}
use Rattle.list_laws.specs.Lists.{SomeOf}

pub each_append : {A : Type 0} (P : A → Type 0) (xs ys : List A) → Each P xs → Each P ys → Each P (xs ++ ys)
each_append P [] ys left right = right
each_append P (x ∷ xs) ys left right = (left.0, each_append P xs ys left.1 right)

pub each_push : {A : Type 0} (P : A → Type 0) (xs : List A) (y : A) → Each P xs → P y → Each P (xs ++ y ∷ [])
each_push P [] y each h = (h, tt)
each_push P (z ∷ xs) y each h = (each.0, each_push P xs y each.1 h)

pub each_front : {A : Type 0} (P : A → Type 0) (xs ys : List A) → Each P (xs ++ ys) → Each P xs
each_front P [] ys each = tt
each_front P (x ∷ xs) ys each = (each.0, each_front P xs ys each.1)

pub each_back : {A : Type 0} (P : A → Type 0) (xs ys : List A) → Each P (xs ++ ys) → Each P ys
each_back P [] ys h = h
each_back P (x ∷ xs) ys h = each_back P xs ys h.1

pub each_weaker : {A : Type 0} (P Q : A → Type 0) → ((x : A) → P x → Q x) → (xs : List A) → Each P xs → Each Q xs
each_weaker P Q go [] each = tt
each_weaker P Q go (x ∷ xs) each = (go x each.0, each_weaker P Q go xs each.1)

-- what follows of each from two facts of each
pub each_with : {A : Type 0} (P Q R : A → Type 0) (xs : List A) → ((x : A) → P x → Q x → R x) → Each P xs → Each Q xs → Each R xs
each_with P Q R [] join ps qs = tt
each_with P Q R (x ∷ xs) join ps qs = (join x ps.0 qs.0, each_with P Q R xs join ps.1 qs.1)

pub each_both : {A : Type 0} (P Q : A → Type 0) (xs : List A) → Each P xs → Each Q xs → Each (λ x. P x × Q x) xs
each_both P Q [] p q = tt
each_both P Q (x ∷ xs) p q = ((p.0, q.0), each_both P Q xs p.1 q.1)

pub each_mapped : {A B : Type 0} (P : A → Type 0) (Q : B → Type 0) (f : A → B) (xs : List A) → ((x : A) → P x → Q (f x)) → Each P xs → Each Q (map f xs)
each_mapped P Q f [] go each = tt
each_mapped P Q f (x ∷ xs) go each = (go x each.0, each_mapped P Q f xs go each.1)

pub each_through : {A B : Type 0} (Q : B → Type 0) (f : A → B) (xs : List A) → Each (λ x. Q (f x)) xs → Each Q (map f xs)
each_through Q f [] all = tt
each_through Q f (x ∷ xs) all = (all.0, each_through Q f xs all.1)

pub each_filter : {A : Type 0} (P : A → Type 0) (p : A → Bool) (xs : List A) → Each P xs → Each P (filter p xs)
each_filter P p [] each = tt
each_filter {A} P p (x ∷ xs) each = by_test (p x) (each_filter P p xs each.1)
  where
    by_test : (b : Bool) → Each P (filter p xs) → Each P (if b then x ∷ filter p xs else filter p xs)
    by_test true rest = (each.0, rest)
    by_test false rest = rest

pub each_get : {A : Type 0} (P : A → Type 0) (xs : List A) (i : ℕ) (x : A) → Each P xs → slice_get xs i ≡ Some x → P x
each_get P [] i x each h = cc
each_get P (z ∷ xs) zero x each h = let e : z ≡ x = cc in subst P e each.0
each_get P (z ∷ xs) (suc i) x each h = each_get P xs i x each.1 h

pub each_set : {A : Type 0} (P : A → Type 0) (xs : List A) (i : ℕ) (y : A) → Each P xs → P y → Each P (set xs i y)
each_set P [] i y each h = tt
each_set P (z ∷ xs) zero y each h = (h, each.1)
each_set P (z ∷ xs) (suc i) y each h = (each.0, each_set P xs i y each.1 h)

-- what holds of each element holds of the one at a place
pub each_here : {A : Type 0} (P : A → Type 0) (xs : List A) (k : ℕ) (x : A) → k < length xs → get_or xs k x ≡ x → Each P xs → P x
each_here P [] k x within here each = absurd (omega (arith, within))
each_here P (y ∷ xs) zero x within here each = subst P here each.0
each_here P (y ∷ xs) (suc k) x within here each = each_here P xs k x (omega (arith, within)) here each.1

pub each_index : {A : Type 0} (P : A → Type 0) (xs : List A) (i : ℕ) (d : A) → Each P xs → i < length xs → P (slice_index_or xs i d)
each_index P [] i d all less = absurd (omega arith)
each_index P (x ∷ xs) zero d all less = all.0
each_index P (x ∷ xs) (suc n) d all less = each_index P xs n d all.1 (omega arith)

pub map_each : {A B : Type 0} (f g : A → B) (xs : List A) → Each (λ x. f x ≡ g x) xs → map f xs ≡ map g xs
map_each f g [] all = refl
map_each f g (x ∷ xs) all = λ i. all.0 i ∷ map_each f g xs all.1 i

pub some_get : {A : Type 0} (P : A → Type 0) (xs : List A) (i : ℕ) (x : A) → slice_get xs i ≡ Some x → P x → SomeOf P xs
some_get P [] i x h p = cc
some_get P (z ∷ xs) zero x h p = let e : x ≡ z = cc in inl (subst P e p)
some_get P (z ∷ xs) (suc i) x h p = inr (some_get P xs i x h p)

pub some_append : {A : Type 0} (P : A → Type 0) (xs more : List A) → SomeOf P xs → SomeOf P (xs ++ more)
some_append P [] more h = absurd h
some_append P (x ∷ xs) more (inl h) = inl h
some_append P (x ∷ xs) more (inr h) = inr (some_append P xs more h)

pub some_push : {A : Type 0} (P : A → Type 0) (xs : List A) (x : A) → P x → SomeOf P (xs ++ x ∷ [])
some_push P [] x h = inl h
some_push P (y ∷ xs) x h = inr (some_push P xs x h)
