-- The order of Execs by caller, target and port, and that a list of Execs that differ can be put in it.
use Rattle.std.proofs.Common.{◌≡◌, ℕ, ◌<◌, suc, zero, List, [], ◌∷◌, length, refl, ap, sym, ◌∙◌, arith, ◌⊎◌, inl, inr}
use Rattle.std.specs.Prelude.{true, nat_lt, ◌==◌, slice_index_or, AllPairs, IsPermutation}
use Rattle.std.proofs.lemmas.Bool.Decides.{nat_tests}
use Rattle.std.proofs.lemmas.List.Sorted.{IsPermutation-refl, IsPermutation-cons, IsPermutation-trans, IsPermutation-middle, Contains-permutation}
use Rattle.std.specs.List.{AllByRecursion as Each}
use Rattle.std.proofs.lemmas.Bool.{or_right}
use Rattle.task_duties.proofs.Elements.{has_from, contains_from, each_at, each_of}
use Rattle.run_laws.specs.Lawful.{ExecAt, comes_before}
use Rattle.run_laws.proofs.Scenarios.Calls.{OrderedBy}

abbrev pub IsApart : ExecAt → ExecAt → Type 0
IsApart a b = a.from ≡ b.from → a.to ≡ b.to → a.port ≡ b.port → ⊥

abbrev pub IsBefore : ExecAt → ExecAt → Type 0
IsBefore a b = (a.from < b.from) ⊎ ((a.from ≡ b.from) × ((a.to < b.to) ⊎ ((a.to ≡ b.to) × (a.port < b.port))))

pub back : (a b : ExecAt) → IsBefore a b → comes_before a b ≡ true
back a b (inl l) = let k : nat_lt a.from b.from ≡ true = grind (arith, nat_tests, l) in rw k refl
back a b (inr h) = by_rest h.0 h.1
  where
    by_rest : a.from ≡ b.from → (a.to < b.to) ⊎ ((a.to ≡ b.to) × (a.port < b.port)) → comes_before a b ≡ true
    by_rest f (inl l) =
        let e : (a.from == b.from) ≡ true = grind (arith, nat_tests, f) in
        let k : nat_lt a.to b.to ≡ true = grind (arith, nat_tests, l) in
        rw (e, k) (or_right (nat_lt a.from b.from) true refl)
    by_rest f (inr h') =
        let t = h'.0 in let p = h'.1 in
        let e : (a.from == b.from) ≡ true = grind (arith, nat_tests, f) in
        let k : (a.to == b.to) ≡ true = grind (arith, nat_tests, t) in
        let l : nat_lt a.port b.port ≡ true = grind (arith, nat_tests, p) in
        rw (e, k, l) (or_right (nat_lt a.from b.from) _ (or_right (nat_lt a.to b.to) true refl))

before_trans : (a b c : ExecAt) → IsBefore a b → IsBefore b c → IsBefore a c
before_trans a b c (inl x) (inl y) = inl (omega (arith, x, y))
before_trans a b c (inl x) (inr y) = inl (let f = y.0 in omega (arith, x, f))
before_trans a b c (inr x) (inl y) = inl (let f = x.0 in omega (arith, y, f))
before_trans a b c (inr x) (inr y) = by_rest (x.0 ∙ y.0) x.1 y.1
  where
    by_rest : a.from ≡ c.from → (a.to < b.to) ⊎ ((a.to ≡ b.to) × (a.port < b.port)) → (b.to < c.to) ⊎ ((b.to ≡ c.to) × (b.port < c.port)) → IsBefore a c
    by_rest f (inl u) (inl v) = inr (f, inl (omega (arith, u, v)))
    by_rest f (inl u) (inr v) = inr (f, inl (let t = v.0 in omega (arith, u, t)))
    by_rest f (inr u) (inl v) = inr (f, inl (let t = u.0 in omega (arith, v, t)))
    by_rest f (inr u) (inr v) = inr (f, inr (u.0 ∙ v.0, (let p = u.1 in let q = v.1 in omega (arith, p, q))))

order : (m n : ℕ) → (m < n) ⊎ ((m ≡ n) ⊎ (n < m))
order zero zero = inr (inl refl)
order zero (suc n) = inl (omega arith)
order (suc m) zero = inr (inr (omega arith))
order (suc m) (suc n) = up (order m n)
  where
    up : ((m < n) ⊎ ((m ≡ n) ⊎ (n < m))) → (suc m < suc n) ⊎ ((suc m ≡ suc n) ⊎ (suc n < suc m))
    up (inl h) = inl (omega (arith, h))
    up (inr (inl h)) = inr (inl (ap suc h))
    up (inr (inr h)) = inr (inr (omega (arith, h)))

pub total : (a b : ExecAt) → IsApart a b → IsBefore a b ⊎ IsBefore b a
total a b apart = by_from (order a.from b.from)
  where
    by_port : a.from ≡ b.from → a.to ≡ b.to → ((a.port < b.port) ⊎ ((a.port ≡ b.port) ⊎ (b.port < a.port))) → IsBefore a b ⊎ IsBefore b a
    by_port f t (inl l) = inl (inr (f, inr (t, l)))
    by_port f t (inr (inl e)) = absurd (apart f t e)
    by_port f t (inr (inr l)) = inr (inr (sym f, inr (sym t, l)))

    by_to : a.from ≡ b.from → ((a.to < b.to) ⊎ ((a.to ≡ b.to) ⊎ (b.to < a.to))) → IsBefore a b ⊎ IsBefore b a
    by_to f (inl l) = inl (inr (f, inl l))
    by_to f (inr (inl e)) = by_port f e (order a.port b.port)
    by_to f (inr (inr l)) = inr (inr (sym f, inl l))

    by_from : ((a.from < b.from) ⊎ ((a.from ≡ b.from) ⊎ (b.from < a.from))) → IsBefore a b ⊎ IsBefore b a
    by_from (inl l) = inl (inl l)
    by_from (inr (inl e)) = by_to e (order a.to b.to)
    by_from (inr (inr l)) = inr (inl l)

-- ---- sorting

pub record IsSortedFrom (xs : List ExecAt) : Type 0 where
  pub list : List ExecAt
  pub permuted : IsPermutation list xs
  pub ordered : OrderedBy IsBefore list

each_after : (a b : ExecAt) → IsBefore a b → (xs : List ExecAt) → Each (IsBefore b) xs → Each (IsBefore a) xs
each_after a b h [] each = tt
each_after a b h (x ∷ xs) each = (before_trans a b x h each.0, each_after a b h xs each.1)

-- an Exec put among others that are in order: what stands before all of these stands before the new list if it stands before the new one
pub record IsInserted (x : ExecAt) (ys : List ExecAt) : Type 0 where
  pub list : List ExecAt
  pub permuted : IsPermutation list (x ∷ ys)
  pub ordered : OrderedBy IsBefore list
  pub all : (a : ExecAt) → IsBefore a x → Each (IsBefore a) ys → Each (IsBefore a) list

insert : (x : ExecAt) (ys : List ExecAt) → Each (IsApart x) ys → OrderedBy IsBefore ys → IsInserted x ys
insert x [] apart order' = record { list = x ∷ []; permuted = IsPermutation-refl (x ∷ []); ordered = (tt, tt); all = λ a h each. (h, tt) }
insert x (y ∷ ys) apart order' = by_order (total x y apart.0) (insert x ys apart.1 order'.1)
  where
    by_order : IsBefore x y ⊎ IsBefore y x → IsInserted x ys → IsInserted x (y ∷ ys)
    by_order (inl h) more = record {
      list = x ∷ y ∷ ys;
      permuted = IsPermutation-refl (x ∷ y ∷ ys);
      ordered = ((h, each_after x y h ys order'.0), order');
      all = λ a k each. (k, each);
    }
    by_order (inr h) more = record {
      list = y ∷ more.list;
      permuted = IsPermutation-trans (y ∷ more.list) (y ∷ x ∷ ys) (x ∷ y ∷ ys) (IsPermutation-cons y more.list (x ∷ ys) more.permuted) (IsPermutation-middle (y ∷ []) x ys);
      ordered = (more.all y h order'.0, more.ordered);
      all = λ a k each. (each.0, more.all a k each.1);
    }

pub IsPermutation_each : (P : ExecAt → Type 0) (xs ys : List ExecAt) → IsPermutation xs ys → Each P ys → Each P xs
IsPermutation_each P xs ys p each = each_of P xs (λ x there. each_at P ys x each (has_from ys x (Contains-permutation xs ys x p (contains_from xs x there))))

pub sorted : (xs : List ExecAt) → OrderedBy IsApart xs → IsSortedFrom xs
sorted [] apart = record { list = []; permuted = IsPermutation-refl []; ordered = tt }
sorted (x ∷ xs) apart =
    let more = sorted xs apart.1 in
    let i = insert x more.list (IsPermutation_each (IsApart x) more.list xs more.permuted apart.0) more.ordered in
    record { list = i.list; permuted = IsPermutation-trans i.list (x ∷ more.list) (x ∷ xs) i.permuted (IsPermutation-cons x more.list xs more.permuted); ordered = i.ordered }

each_index : {A : Type 0} (P : A → Type 0) (xs : List A) (k : ℕ) (d : A) → k < length xs → Each P xs → P (slice_index_or xs k d)
each_index P [] k d less each = absurd (omega (arith, less))
each_index P (x ∷ xs) zero d less each = each.0
each_index P (x ∷ xs) (suc k) d less each = each_index P xs k d (omega (arith, less)) each.1

pub all_pairs : {A : Type 0} (R : A → A → Type 0) (xs : List A) → OrderedBy R xs → AllPairs R xs
all_pairs R [] order' i j d less small = absurd (omega (arith, small))
all_pairs R (x ∷ xs) order' zero zero d less small = absurd (omega (arith, less))
all_pairs R (x ∷ xs) order' zero (suc j) d less small = each_index (R x) xs j d (omega (arith, small)) order'.0
all_pairs R (x ∷ xs) order' (suc i) zero d less small = absurd (omega (arith, less))
all_pairs R (x ∷ xs) order' (suc i) (suc j) d less small = all_pairs R xs order'.1 i j d (omega (arith, less)) (omega (arith, small))

each_back : (a : ExecAt) (xs : List ExecAt) → Each (IsBefore a) xs → Each (λ b. comes_before a b ≡ true) xs
each_back a [] each = tt
each_back a (x ∷ xs) each = (back a x each.0, each_back a xs each.1)

pub tests_of : (xs : List ExecAt) → OrderedBy IsBefore xs → OrderedBy (λ a b. comes_before a b ≡ true) xs
tests_of [] order' = tt
tests_of (x ∷ xs) order' = (each_back x xs order'.0, tests_of xs order'.1)
