-- Lists that are changed in place, and lists in step.
use Rattle.std.proofs.Common.{◌≡◌, ℕ, ◌+◌, ◌<◌, ◌≤◌, suc, zero, List, [], ◌∷◌, ◌++◌, length, take, drop, map, slice_index_or, slice_set, refl, sym, subst, ap, ◌∙◌, arith, add-one, append-nil}
use Rattle.std.specs.List.{AllByRecursion as Each, AllZip as EachPair}
use Rattle.std.proofs.Math.Seq.{take-append_seam}

-- f of the first few elements, and the others as they are
abbrev pub map_first : {A : Type 0} → (A → A) → ℕ → List A → List A
map_first f zero xs = xs
map_first f (suc n) [] = []
map_first f (suc n) (x ∷ xs) = f x ∷ map_first f n xs

pub map_first_here : {A : Type 0} (f : A → A) (i : ℕ) (xs : List A) (d : A) → slice_index_or (map_first f i xs) i d ≡ slice_index_or xs i d
map_first_here f (suc n) (x ∷ xs) d = map_first_here f n xs d
map_first_here f _ _ d = refl

pub set_map_first : {A : Type 0} (f : A → A) (i : ℕ) (xs : List A) (d : A) → i < length xs → slice_set (map_first f i xs) i (f (slice_index_or xs i d)) ≡ map_first f (suc i) xs
set_map_first f i [] d less = absurd (omega arith)
set_map_first f zero (x ∷ xs) d less = refl
set_map_first {A} f (suc n) (x ∷ xs) d less = ap (λ (ys : List A). f x ∷ ys) (set_map_first f n xs d (omega arith))

pub map_first_all : {A : Type 0} (f : A → A) (i : ℕ) (xs : List A) → length xs ≤ i → map_first f i xs ≡ map f xs
map_first_all f zero [] within = refl
map_first_all f zero (x ∷ xs) within = absurd (omega arith)
map_first_all f (suc n) [] within = refl
map_first_all {A} f (suc n) (x ∷ xs) within = ap (λ (ys : List A). f x ∷ ys) (map_first_all f n xs (omega arith))

pub length_map_first : {A : Type 0} (f : A → A) (i : ℕ) (xs : List A) → length (map_first f i xs) ≡ length xs
length_map_first f (suc n) (x ∷ xs) = ap (λ (k : ℕ). suc k) (length_map_first f n xs)
length_map_first f _ _ = refl

-- one element more is changed
pub map_more : {A : Type 0} (f : A → A) (i : ℕ) (xs items : List A) (d new : A) → items ≡ map_first f i xs → i < length items → new ≡ f (slice_index_or items i d) → slice_set items i new ≡ map_first f (i + 1) xs
map_more {A} f i xs items d new are less is =
    let few : i < length xs = omega (arith, length_map_first f i xs, ap length are) in
    let at : slice_index_or items i d ≡ slice_index_or xs i d = ap (λ (ys : List A). slice_index_or ys i d) are ∙ map_first_here f i xs d in
    (λ k. slice_set (are k) i ((is ∙ ap f at) k)) ∙ set_map_first f i xs d few ∙ ap (λ (n : ℕ). map_first f n xs) (sym (add-one i))

-- ---- lists in step

-- what was written through a vector's elements is what it has
pub written_back : {A : Type 0} (n : ℕ) (items old : List A) → length items ≡ n → take n (items ++ drop (length items) old) ≡ items
written_back {A} n items old is = subst (λ (k : ℕ). take k (items ++ drop (length items) old) ≡ items) is (take-append_seam items (drop (length items) old))

-- a list whose rest is empty is the whole
pub whole_list : {A : Type 0} (xs ys all : List A) → xs ++ ys ≡ all → length ys ≡ 0 → xs ≡ all
whole_list xs [] all is none = sym (append-nil xs) ∙ is
whole_list xs (y ∷ ys) all is none = absurd (omega (arith, none))

pub each_of_pairs : {A B : Type 0} (R : A → B → Type 0) (P : A → Type 0) (Q : B → Type 0) (xs : List A) (ys : List B) → ((x : A) (y : B) → R x y → P x → Q y) → EachPair R xs ys → Each P xs → Each Q ys
each_of_pairs R P Q [] [] gives pairs all = tt
each_of_pairs R P Q (x ∷ xs) (y ∷ ys) gives pairs all = (gives x y pairs.0 all.0, each_of_pairs R P Q xs ys gives pairs.1 all.1)
each_of_pairs R P Q _ _ gives pairs all = absurd pairs

pub pairs_of_pairs : {A B C D : Type 0} (R : A → B → Type 0) (P : A → Type 0) (S : C → D → Type 0) (f : A → C) (g : B → D) (xs : List A) (ys : List B) → ((x : A) (y : B) → R x y → P x → S (f x) (g y)) → EachPair R xs ys → Each P xs → EachPair S (map f xs) (map g ys)
pairs_of_pairs R P S f g [] [] gives pairs all = tt
pairs_of_pairs R P S f g (x ∷ xs) (y ∷ ys) gives pairs all = (gives x y pairs.0 all.0, pairs_of_pairs R P S f g xs ys gives pairs.1 all.1)
pairs_of_pairs R P S f g _ _ gives pairs all = absurd pairs

pub map_pairs : {A B C : Type 0} (R : A → B → Type 0) (f : A → C) (g : B → C) (xs : List A) (ys : List B) → ((x : A) (y : B) → R x y → g y ≡ f x) → EachPair R xs ys → map g ys ≡ map f xs
map_pairs R f g [] [] same pairs = refl
map_pairs R f g (x ∷ xs) (y ∷ ys) same pairs = λ i. same x y pairs.0 i ∷ map_pairs R f g xs ys same pairs.1 i
map_pairs R f g _ _ same pairs = absurd pairs
