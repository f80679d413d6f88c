-- Which sessions are open when one begins or is over.
use Rattle.std.proofs.Common.{◌≡◌, ◌≢◌, ℕ, ◌+◌, ◌<◌, ◌≤◌, zero, suc, List, [], ◌∷◌, ◌++◌, length, get_or, set, refl, ap, sym, subst, ◌∙◌, arith, Option, Some, None}
use Rattle.std.specs.Prelude.{true, false, Bool, ◌==◌, slice_get, unwrap_or, if◌then◌else◌}
use Rattle.std.specs.List.{swap_remove, AllByRecursion as Each}
use Rattle.std.proofs.lemmas.List.Sums.{sum_by-append, sum_by-cons, sum_by-swap_remove}
use Rattle.std.proofs.lemmas.Bool.Decides.{nat_tests}
use Rattle.list_laws.proofs.Places.{get_set_same, get_set_other}
use Rattle.list_laws.proofs.Tests.{same_number}
use Rattle.agent_slots.specs.declared.slot.Slot.{Slot}
use Rattle.agent_slots.specs.Stages.{Frame, is_session}
use Rattle.agent_slots.specs.Whole.{times, sessions, opened_in, AreOpen}

pub other_number : (i j : ℕ) → (i == j) ≡ false → j ≢ i
other_number i j h e = let self : (i == i) ≡ true = grind (arith, nat_tests) in let k : (i == j) ≡ true = ap (λ n. i == n) e ∙ self in let w : false ≡ true = sym h ∙ k in bad w
  where
    bad : false ≡ true → ⊥
    bad w = cc

pub open_more : (are : List Bool) (numbers : List ℕ) (i : ℕ) → AreOpen are numbers → slice_get are i ≡ Some false → AreOpen (set are i true) (numbers ++ i ∷ [])
open_more are numbers i h shut j = by_test (i == j) refl
  where
    sum : times j (numbers ++ i ∷ []) ≡ times j numbers + (if i == j then 1 else 0)
    sum = omega (arith, sum_by-append (λ n. if n == j then 1 else 0) numbers (i ∷ []))

    by_test : (b : Bool) → (i == j) ≡ b → times j (numbers ++ i ∷ []) ≡ (if unwrap_or (slice_get (set are i true) j) false then 1 else 0)
    by_test true is =
        let e = same_number i j is in
        let before : times j numbers ≡ 0 = h j ∙ ap (λ (o : Option Bool). if unwrap_or o false then 1 else 0) (ap (slice_get are) (sym e) ∙ shut) in
        let now : slice_get (set are i true) j ≡ Some true = ap (slice_get (set are i true)) (sym e) ∙ get_set_same are i false true shut in
        let s : times j (numbers ++ i ∷ []) ≡ times j numbers + 1 = sum ∙ ap (λ (b : Bool). times j numbers + (if b then 1 else 0)) is in
        rw now (omega (arith, s, before))
    by_test false is =
        let s : times j (numbers ++ i ∷ []) ≡ times j numbers + 0 = sum ∙ ap (λ (b : Bool). times j numbers + (if b then 1 else 0)) is in
        rw (get_set_other are i j true (other_number i j is), ← h j) (omega (arith, s))

pub open_less : (are : List Bool) (numbers : List ℕ) (k i : ℕ) → AreOpen are numbers → k < length numbers → i ≡ get_or numbers k i → slice_get are i ≡ Some true → AreOpen (set are i false) (swap_remove numbers k i)
open_less are numbers k i h less at is_open j = by_test (i == j) refl
  where
    sum : times j (swap_remove numbers k i) + (if i == j then 1 else 0) ≡ times j numbers
    sum =
        let s = sum_by-swap_remove (λ n. if n == j then 1 else 0) numbers k i less in
        let e : ◌≡◌ {A = ℕ} (if i == j then 1 else 0) (if get_or numbers k i == j then 1 else 0) = ap (λ n. if n == j then 1 else 0) at in
        omega (arith, s, e)

    by_test : (b : Bool) → (i == j) ≡ b → times j (swap_remove numbers k i) ≡ (if unwrap_or (slice_get (set are i false) j) false then 1 else 0)
    by_test true is =
        let e = same_number i j is in
        let before : times j numbers ≡ 1 = h j ∙ ap (λ (o : Option Bool). if unwrap_or o false then 1 else 0) (ap (slice_get are) (sym e) ∙ is_open) in
        let now : slice_get (set are i false) j ≡ Some false = ap (slice_get (set are i false)) (sym e) ∙ get_set_same are i true false is_open in
        let s : times j (swap_remove numbers k i) + 1 ≡ times j numbers = ap (λ (b : Bool). times j (swap_remove numbers k i) + (if b then 1 else 0)) (sym is) ∙ sum in
        rw now (omega (arith, s, before))
    by_test false is =
        let s : times j (swap_remove numbers k i) + 0 ≡ times j numbers = ap (λ (b : Bool). times j (swap_remove numbers k i) + (if b then 1 else 0)) (sym is) ∙ sum in
        rw (get_set_other are i j false (other_number i j is), ← h j) (omega (arith, s))

-- a number in the list is that of an open session
times_at : (numbers : List ℕ) (k i : ℕ) → k < length numbers → i ≡ get_or numbers k i → 1 ≤ times i numbers
times_at [] k i less at = absurd (omega (arith, less))
times_at (n ∷ numbers) zero i less at =
    let self : (n == i) ≡ true = grind (arith, nat_tests) in
    let e : ◌≡◌ {A = ℕ} (if n == i then 1 else 0) 1 = rw self refl in
    omega (arith, sum_by-cons (λ m. if m == i then 1 else 0) n numbers, e)
times_at (n ∷ numbers) (suc k) i less at = let h = times_at numbers k i (omega (arith, less)) at in omega (arith, sum_by-cons (λ m. if m == i then 1 else 0) n numbers, h)

pub open_at : (are : List Bool) (numbers : List ℕ) (k i : ℕ) → AreOpen are numbers → k < length numbers → i ≡ get_or numbers k i → slice_get are i ≡ Some true
open_at are numbers k i h less at = by_option (slice_get are i) refl
  where
    some : 1 ≤ times i numbers
    some = times_at numbers k i less at

    by_option : (o : Option Bool) → slice_get are i ≡ o → o ≡ Some true
    by_option (Some true) is = refl
    by_option (Some false) is = absurd (let e : times i numbers ≡ 0 = h i ∙ ap (λ (o : Option Bool). if unwrap_or o false then 1 else 0) is in omega (arith, some, e))
    by_option None is = absurd (let e : times i numbers ≡ 0 = h i ∙ ap (λ (o : Option Bool). if unwrap_or o false then 1 else 0) is in omega (arith, some, e))

-- if the list is empty, no session is open
pub none_open : (are : List Bool) (i : ℕ) (b : Bool) → AreOpen are [] → slice_get are i ≡ Some b → b ≡ false
none_open are i true h is = absurd (let e : 0 ≡ 1 = h i ∙ ap (λ (o : Option Bool). if unwrap_or o false then 1 else 0) is in omega (arith, e))
none_open are i false h is = refl

each_shut : (slots : List Slot) → ((i : ℕ) (b : Bool) → slice_get (sessions slots) i ≡ Some b → b ≡ false) → Each (λ s. is_session s.stage ≡ false) slots
each_shut [] h = tt
each_shut (s ∷ slots) h = (h 0 (is_session s.stage) refl, each_shut slots (λ i. h (suc i)))

pub all_shut : (slots : List Slot) (busy : List ℕ) → AreOpen (sessions slots) busy → busy ≡ [] → Each (λ s. is_session s.stage ≡ false) slots
all_shut slots busy h none = each_shut slots (λ i b is. none_open (sessions slots) i b (subst (λ ns. AreOpen (sessions slots) ns) none h) is)

-- if none is told of as open, the list of their numbers is empty
pub none_busy : (fs : List Frame) (numbers : List ℕ) → opened_in fs numbers ≡ [] → numbers ≡ []
none_busy fs [] h = refl
none_busy fs (n ∷ numbers) h = cc
