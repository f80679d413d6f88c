-- The numbers of pages by their places, one page more.
use Rattle.std.proofs.Common.{◌≡◌, ℕ, zero, suc, ◌<◌, List, [], ◌∷◌, ◌++◌, length, refl, ap, sym, ◌∙◌, arith, Some, None}
use Rattle.std.specs.Prelude.{true, false, Bool, ◌==◌, ◌&&◌, cond}
use Rattle.std.specs.HashMap.{get}
use Rattle.std.proofs.lemmas.Bool.{and_parts}
use Rattle.list_laws.proofs.Tests.{same_number, equal_either_way}
use Rattle.task_duties.specs.declared.place.PagePlace.{PagePlace}
use Rattle.task_duties.specs.declared.place.PagePlace.TheVariants.{Control, Payload}
use Rattle.task_duties.specs.Places.{is_place}
use Rattle.agent_slots.specs.Index.{PlaceIndex, same_key, end_at}
use Rattle.run_laws.specs.ReadOff.{index_of}
use Rattle.scenario_run.specs.Index.{AreNumbers}

-- ---- the first place, with one place more

longer : {A : Type 0} (xs : List A) (y : A) → length (xs ++ y ∷ []) ≡ suc (length xs)
longer [] y = refl
longer (x ∷ xs) y = ap suc (longer xs y)

missing_then : (x y : PagePlace) (xs : List PagePlace) → index_of x xs ≡ length xs → is_place x y ≡ true → index_of x (xs ++ y ∷ []) ≡ length xs
missing_then x y [] is here = rw here refl
missing_then x y (p ∷ xs) is here = by (is_place x p) refl (λ e. missing_then x y xs e here)
  where
    by : (b : Bool) → is_place x p ≡ b → (index_of x xs ≡ length xs → index_of x (xs ++ y ∷ []) ≡ length xs) → index_of x (p ∷ xs ++ y ∷ []) ≡ length (p ∷ xs)
    by true at rest = absurd (let e : zero ≡ suc (length xs) = (let k : index_of x (p ∷ xs) ≡ zero = rw at refl in sym k ∙ is) in cc)
    by false at rest =
        let e : suc (index_of x xs) ≡ suc (length xs) = (let k : index_of x (p ∷ xs) ≡ suc (index_of x xs) = rw at refl in sym k ∙ is) in
        let e' : index_of x xs ≡ length xs = omega (arith, e) in
        rw at (ap suc (rest e'))

missing_on : (x y : PagePlace) (xs : List PagePlace) → index_of x xs ≡ length xs → is_place x y ≡ false → index_of x (xs ++ y ∷ []) ≡ length (xs ++ y ∷ [])
missing_on x y [] is other = rw other refl
missing_on x y (p ∷ xs) is other = by (is_place x p) refl (λ e. missing_on x y xs e other)
  where
    by : (b : Bool) → is_place x p ≡ b → (index_of x xs ≡ length xs → index_of x (xs ++ y ∷ []) ≡ length (xs ++ y ∷ [])) → index_of x (p ∷ xs ++ y ∷ []) ≡ length (p ∷ xs ++ y ∷ [])
    by true at rest = absurd (let e : zero ≡ suc (length xs) = (let k : index_of x (p ∷ xs) ≡ zero = rw at refl in sym k ∙ is) in cc)
    by false at rest =
        let e : suc (index_of x xs) ≡ suc (length xs) = (let k : index_of x (p ∷ xs) ≡ suc (index_of x xs) = rw at refl in sym k ∙ is) in
        let e' : index_of x xs ≡ length xs = omega (arith, e) in
        rw at (ap suc (rest e'))

found_on : (x y : PagePlace) (xs : List PagePlace) → index_of x xs < length xs → index_of x (xs ++ y ∷ []) ≡ index_of x xs
found_on x y [] less = absurd (omega (arith, less))
found_on x y (p ∷ xs) less = by (is_place x p) refl (λ e. found_on x y xs e)
  where
    by : (b : Bool) → is_place x p ≡ b → (index_of x xs < length xs → index_of x (xs ++ y ∷ []) ≡ index_of x xs) → index_of x (p ∷ xs ++ y ∷ []) ≡ index_of x (p ∷ xs)
    by true at rest = rw at refl
    by false at rest =
        let k : index_of x (p ∷ xs) ≡ suc (index_of x xs) = rw at refl in
        let less' : index_of x xs < length xs = omega (arith, less, k) in
        rw at (ap suc (rest less'))

-- ---- keys and places

agree : (a b c f t p : ℕ) → is_place (Payload a b c) (Payload f t p) ≡ same_key (f, t, p) (a, b, c)
agree a b c f t p = rw (equal_either_way a f, equal_either_way b t, equal_either_way c p) refl

-- what is noted at a key is noted at one that is the same
moved : (index : PlaceIndex) (f t p a b c : ℕ) → same_key (f, t, p) (a, b, c) ≡ true → end_at index f t p ≡ None → end_at index a b c ≡ None
moved index f t p a b c same free =
    let one = and_parts (f == a && t == b) (p == c) same in
    let two = and_parts (f == a) (t == b) one.0 in
    let x : f ≡ a = same_number f a two.0 in
    let y : t ≡ b = same_number t b two.1 in
    let z : p ≡ c = same_number p c one.1 in
    rw (← x, ← y, ← z) free

-- ---- one page more

some_on : (places : List PagePlace) (y : PagePlace) (a b c i : ℕ) → (index_of (Payload a b c) places ≡ i) × (i < length places)
    → (index_of (Payload a b c) (places ++ y ∷ []) ≡ i) × (i < length (places ++ y ∷ []))
some_on places y a b c i was =
    let less : index_of (Payload a b c) places < length places = omega (arith, was) in
    (found_on (Payload a b c) y places less ∙ was.0, let l = longer places y in omega (arith, was, l))

control_more : (places : List PagePlace) (d : ℕ) (numbers : PlaceIndex) → AreNumbers places numbers → AreNumbers (places ++ Control d ∷ []) numbers
control_more places d numbers was = record {
  none = λ a b c is. missing_on (Payload a b c) (Control d) places (was.none a b c is) refl;
  some = λ a b c i is. some_on places (Control d) a b c i (was.some a b c i is);
}

pub other_more : (place : PagePlace) (numbers : PlaceIndex) → ((f t p : ℕ) → place ≡ Payload f t p → ⊥) → (places : List PagePlace) → AreNumbers places numbers → AreNumbers (places ++ place ∷ []) numbers
other_more (Control d) numbers other places was = control_more places d numbers was
other_more (Payload f t p) numbers other places was = absurd (other f t p refl)

pub known_more : (places : List PagePlace) (f t p : ℕ) (numbers : PlaceIndex) → (end_at numbers f t p ≡ None → ⊥) → AreNumbers places numbers → AreNumbers (places ++ Payload f t p ∷ []) numbers
known_more places f t p numbers known was = record {
  none = none;
  some = λ a b c j is. some_on places (Payload f t p) a b c j (was.some a b c j is);
}
  where
    none : (a b c : ℕ) → end_at numbers a b c ≡ None → index_of (Payload a b c) (places ++ Payload f t p ∷ []) ≡ length (places ++ Payload f t p ∷ [])
    none a b c is = by (same_key (a, b, c) (f, t, p)) refl
      where
        by : (k : Bool) → same_key (a, b, c) (f, t, p) ≡ k → index_of (Payload a b c) (places ++ Payload f t p ∷ []) ≡ length (places ++ Payload f t p ∷ [])
        by true same = absurd (known (moved numbers a b c f t p same is))
        by false same = missing_on (Payload a b c) (Payload f t p) places (was.none a b c is) same

pub new_more : (places : List PagePlace) (f t p n : ℕ) (old new : PlaceIndex) → length places ≡ n → end_at old f t p ≡ None
    → ((q : ℕ × ℕ × ℕ) → get same_key new q ≡ cond (same_key (f, t, p) q) (Some n) (get same_key old q)) → AreNumbers places old → AreNumbers (places ++ Payload f t p ∷ []) new
new_more places f t p n old new long free put was = record { none = none; some = some }
  where
    after : (a b c : ℕ) (k : Bool) → same_key (f, t, p) (a, b, c) ≡ k → end_at new a b c ≡ cond k (Some n) (end_at old a b c)
    after a b c k is = put (a, b, c) ∙ ap (λ k. cond k (Some n) (end_at old a b c)) is

    none : (a b c : ℕ) → end_at new a b c ≡ None → index_of (Payload a b c) (places ++ Payload f t p ∷ []) ≡ length (places ++ Payload f t p ∷ [])
    none a b c is = by (same_key (f, t, p) (a, b, c)) refl
      where
        by : (k : Bool) → same_key (f, t, p) (a, b, c) ≡ k → index_of (Payload a b c) (places ++ Payload f t p ∷ []) ≡ length (places ++ Payload f t p ∷ [])
        by true same = absurd (let e : Some n ≡ None = sym (after a b c true same) ∙ is in cc)
        by false same = missing_on (Payload a b c) (Payload f t p) places (was.none a b c (sym (after a b c false same) ∙ is)) (agree a b c f t p ∙ same)

    some : (a b c i : ℕ) → end_at new a b c ≡ Some i → (index_of (Payload a b c) (places ++ Payload f t p ∷ []) ≡ i) × (i < length (places ++ Payload f t p ∷ []))
    some a b c i is = by (same_key (f, t, p) (a, b, c)) refl
      where
        by : (k : Bool) → same_key (f, t, p) (a, b, c) ≡ k → (index_of (Payload a b c) (places ++ Payload f t p ∷ []) ≡ i) × (i < length (places ++ Payload f t p ∷ []))
        by true same =
            let e : n ≡ i = (let k : Some n ≡ Some i = sym (after a b c true same) ∙ is in cc) in
            let here = missing_then (Payload a b c) (Payload f t p) places (was.none a b c (moved old f t p a b c same free)) (agree a b c f t p ∙ same) in
            (here ∙ long ∙ e, let l = longer places (Payload f t p) in omega (arith, l, long, e))
        by false same = some_on places (Payload f t p) a b c i (was.some a b c i (sym (after a b c false same) ∙ is))
