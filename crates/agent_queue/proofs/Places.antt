-- Elements at places of a list.
use Rattle.std.proofs.Common.{◌≡◌, ℕ, ◌<◌, suc, zero, List, [], ◌∷◌, length, map, drop, refl, ap, sym, ◌∙◌, arith, Some, subst, get_or}
use Rattle.std.specs.Prelude.{slice_get, slice_set, slice_index}
use Rattle.std.specs.List.{AllByRecursion as Each}

pub each_set : {A : Type 0} (P : A → Type 0) (xs : List A) (i : ℕ) (x : A) → Each P xs → P x → Each P (slice_set xs i x)
each_set P [] i x each new = tt
each_set P (y ∷ xs) zero x each new = (new, each.1)
each_set P (y ∷ xs) (suc i) x each new = (each.0, each_set P xs i x each.1 new)

-- a mapped list doesn't see a change that f doesn't see
pub map_set_same : {A B : Type 0} (f : A → B) (xs : List A) (i : ℕ) (x y : A) → slice_get xs i ≡ Some x → f y ≡ f x → map f (slice_set xs i y) ≡ map f xs
map_set_same f [] i x y is same = refl
map_set_same f (z ∷ xs) zero x y is same = let there : z ≡ x = cc in ap (λ b. b ∷ map f xs) (same ∙ ap f (sym there))
map_set_same f (z ∷ xs) (suc i) x y is same = ap (λ r. f z ∷ r) (map_set_same f xs i x y is same)

pub map_set_one : {A B : Type 0} (f : A → B) (xs : List A) (i : ℕ) (y : A) → map f (slice_set xs i y) ≡ slice_set (map f xs) i (f y)
map_set_one f [] i y = refl
map_set_one f (z ∷ xs) zero y = refl
map_set_one f (z ∷ xs) (suc i) y = ap (λ r. f z ∷ r) (map_set_one f xs i y)

pub length_set_one : {A : Type 0} (xs : List A) (i : ℕ) (y : A) → length (slice_set xs i y) ≡ length xs
length_set_one [] i y = refl
length_set_one (z ∷ xs) zero y = refl
length_set_one (z ∷ xs) (suc i) y = ap suc (length_set_one xs i y)

-- what stands after a place is as it was
pub drop_set : {A : Type 0} (P : A → Type 0) (n : ℕ) (xs : List A) (i : ℕ) (y : A) → Each P (drop n xs) → P y → Each P (drop n (slice_set xs i y))
drop_set P zero xs i y each new = each_set P xs i y each new
drop_set P (suc n) [] i y each new = tt
drop_set P (suc n) (z ∷ xs) zero y each new = each
drop_set P (suc n) (z ∷ xs) (suc i) y each new = drop_set P n xs i y each new

pub drop_next : {A : Type 0} (P : A → Type 0) (n : ℕ) (xs : List A) (y : A) → Each P (drop n xs) → Each P (drop (suc n) (slice_set xs n y))
drop_next P zero [] y each = tt
drop_next P zero (z ∷ xs) y each = each.1
drop_next P (suc n) [] y each = tt
drop_next P (suc n) (z ∷ xs) y each = drop_next P n xs y each

pub drop_at : {A : Type 0} (P : A → Type 0) (n : ℕ) (xs : List A) (x : A) → Each P (drop n xs) → slice_get xs n ≡ Some x → P x
drop_at P zero [] x each is = cc
drop_at P zero (y ∷ xs) x each is = let same : y ≡ x = cc in subst P same each.0
drop_at P (suc n) [] x each is = cc
drop_at P (suc n) (y ∷ xs) x each is = drop_at P n xs x each is

pub drop_set_if : {A : Type 0} (P : A → Type 0) (n : ℕ) (xs : List A) (i : ℕ) (x y : A) → Each P (drop n xs) → slice_get xs i ≡ Some x → (P x → P y) → Each P (drop n (slice_set xs i y))
drop_set_if P zero [] i x y each is go = tt
drop_set_if {A} P zero (z ∷ xs) zero x y each is go = let same : z ≡ x = cc in (go (subst P same each.0), each.1)
drop_set_if P zero (z ∷ xs) (suc i) x y each is go = (each.0, drop_set_if P zero xs i x y each.1 is go)
drop_set_if P (suc n) [] i x y each is go = tt
drop_set_if P (suc n) (z ∷ xs) zero x y each is go = each
drop_set_if P (suc n) (z ∷ xs) (suc i) x y each is go = drop_set_if P n xs i x y each is go

-- the number at a place that is within
pub index_is : (xs : List ℕ) (i n : ℕ) → i < length xs → n ≡ get_or xs i n → slice_index xs i ≡ n
index_is [] i n less is = absurd (omega (arith, less))
index_is (x ∷ xs) zero n less is = sym is
index_is (x ∷ xs) (suc i) n less is = index_is xs i n (omega (arith, less)) is
