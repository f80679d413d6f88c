-- The open calls to a target and their count when one call changes.
use Rattle.std.proofs.Common.{◌≡◌, ℕ, ◌+◌, ◌<◌, suc, zero, List, [], ◌∷◌, length, length-append, refl, ap, sym, ◌∙◌, arith, Option, Some, None, subst, get_or-set_same, get_or-set_other}
use Rattle.std.specs.Prelude.{true, false, Bool, bytes_eq, slice_get, slice_set, slice_index, if◌then◌else◌, option_map}
use Rattle.std.proofs.lemmas.Slice.Eq.{bytes_eq-Decides}
use Rattle.call_broker.specs.Domains.{place_of}
use Rattle.task_duties.specs.Words.{ident_of}
use Rattle.agent_queue.proofs.Places.{length_set_one}
use Rattle.agent_queue.specs.Queue.{Queued, is_open_to, open_idents, open_count}

abbrev pub one : Bool → ℕ
one true = 1
one false = 0

count_cons : (target : List ℕ) (x : Queued) (calls : List Queued) → open_count target (x ∷ calls) ≡ open_count target calls + one (is_open_to target x)
count_cons target x calls = length-append (open_idents target calls) (if is_open_to target x then ident_of x.call.number ∷ [] else [])
    ∙ ap (λ n. open_count target calls + n) (by_test (is_open_to target x))
  where
    by_test : (b : Bool) → length (if b then ident_of x.call.number ∷ [] else []) ≡ one b
    by_test true = refl
    by_test false = refl

pub count_set : (target : List ℕ) (calls : List Queued) (i : ℕ) (x y : Queued) → slice_get calls i ≡ Some x
    → open_count target (slice_set calls i y) + one (is_open_to target x) ≡ open_count target calls + one (is_open_to target y)
count_set target [] i x y is = cc
count_set target (z ∷ calls) zero x y is =
    let same : z ≡ x = cc in
    let old : open_count target (z ∷ calls) ≡ open_count target calls + one (is_open_to target x) = count_cons target z calls ∙ ap (λ c. open_count target calls + one (is_open_to target c)) same in
    let new = count_cons target y calls in
    omega (arith, old, new)
count_set target (z ∷ calls) (suc i) x y is =
    let old = count_cons target z calls in
    let new = count_cons target z (slice_set calls i y) in
    let rest = count_set target calls i x y is in
    omega (arith, old, new, rest)

-- the name at the first place of a name is that name
pub name_at_lem : (names : List (List ℕ)) (name : List ℕ) (k : ℕ) → place_of names name ≡ Some k → slice_get names k ≡ Some name
name_at_lem [] name k is = cc
name_at_lem (n ∷ names) name k is = by_test (bytes_eq n name) refl (λ j at. name_at_lem names name j at) is
  where
    by_place : (o : Option ℕ) → ((j : ℕ) → o ≡ Some j → slice_get names j ≡ Some name) → option_map suc o ≡ Some k → slice_get (n ∷ names) k ≡ Some name
    by_place None more is' = cc
    by_place (Some j) more is' = let next : suc j ≡ k = cc in subst (λ l. slice_get (n ∷ names) l ≡ Some name) next (more j refl)

    by_test : (b : Bool) → bytes_eq n name ≡ b → ((j : ℕ) → place_of names name ≡ Some j → slice_get names j ≡ Some name) → (if b then Some 0 else option_map suc (place_of names name)) ≡ Some k → slice_get (n ∷ names) k ≡ Some name
    by_test true same more is' = let first : 0 ≡ k = cc in subst (λ l. slice_get (n ∷ names) l ≡ Some name) first (ap Some ((bytes_eq-Decides n name).0 same))
    by_test false same more is' = by_place (place_of names name) more is'

pub one_place : (names : List (List ℕ)) (x y : List ℕ) (k : ℕ) → place_of names x ≡ Some k → place_of names y ≡ Some k → x ≡ y
one_place names x y k px py = let at_x = name_at_lem names x k px in let at_y = name_at_lem names y k py in let both : Some x ≡ Some y = sym at_x ∙ at_y in cc

-- ---- the counts

-- the count at one place follows whether a call was open before and is open now, and the other counts are as they were
pub record Recounts (counts new : List ℕ) (target : ℕ) (before now : Bool) : Type 0 where
  pub here : slice_index new target + one before ≡ slice_index counts target + one now
  pub others : (k : ℕ) → (k ≡ target → ⊥) → slice_index new k ≡ slice_index counts k
  pub long : length new ≡ length counts

pub recounts_not : (counts : List ℕ) (target : ℕ) (b : Bool) → Recounts counts counts target b b
recounts_not counts target b = record { here = refl; others = λ k apart. refl; long = refl }

pub recounts_set : (counts : List ℕ) (target n : ℕ) (before now : Bool) → target < length counts → n + one before ≡ slice_index counts target + one now
    → Recounts counts (slice_set counts target n) target before now
recounts_set counts target n before now within is = record {
  here = rw (get_or-set_same counts target n 0 within) is;
  others = λ k apart. get_or-set_other counts target k n 0 apart;
  long = length_set_one counts target n;
}
