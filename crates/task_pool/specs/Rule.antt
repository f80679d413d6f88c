-- The rule of the queue of waiting tasks: each place either waits or is kept by one pass, once.
use Rattle.std.specs.Prelude.{◌≡◌, ℕ, zero, suc, ◌+◌, ◌-◌, ◌<◌, ◌≤◌, List, [], ◌∷◌, ◌++◌, length, take, slice_get, Some}
use Rattle.std.specs.List.{AllByRecursion}
use mathlib.Core.Option.{some}
use lib.ListN.{get_elem?}
use Rattle.task_pool.specs.declared.queue.Holding.{Holding}
use Rattle.task_pool.specs.declared.waiting.Waiting.{Waiting}
use Rattle.task_pool.specs.Holding.{all_parts}

-- f of each element, added up
abbrev pub total : {X : Type 0} → (X → ℕ) → List X → ℕ
total f [] = 0
total f (x ∷ xs) = f x + total f xs

-- the weights of the places below n, added up
abbrev pub below : (ℕ → ℕ) → ℕ → ℕ
below weight zero = 0
below weight (suc n) = below weight n + weight n

-- the weights of the places that a pass keeps, and of those that wait
abbrev pub kept_weight : {T : Type 0} → (ℕ → ℕ) → List (ℕ × T) → ℕ
kept_weight weight kept = total (λ e. weight e.0) kept

abbrev pub waiting_weight : {T : Type 0} → (ℕ → ℕ) → List (Waiting T) → ℕ
waiting_weight weight items = total (λ x. weight x.place) items

-- the task was first enqueued at the place
abbrev pub IsEnqueued : {T : Type 0} → List T → (ℕ × T) → Type 0
IsEnqueued enqueued e = slice_get enqueued e.0 ≡ Some e.1

-- what a pass knows fits the tasks enqueued: with a part it knows them all, without one it keeps nothing, and it keeps places with the tasks enqueued there
pub record Fits {T : Type 0} (enqueued : List T) (v : Holding T) : Type 0 where
  pub knows : 0 < v.parts → v.enqueued ≡ enqueued
  pub idle : v.parts ≡ 0 → v.kept ≡ []
  pub placed : AllByRecursion (IsEnqueued enqueued) v.kept

module _ {T D : Type 0} (owes : T → D → Type 0) where
  -- what a waiting task owes, the task first enqueued at its place owed
  pub record Owing (enqueued : List T) (x : Waiting T) : Type 0 where
    pub first : T
    pub at : slice_get enqueued x.place ≡ Some first
    pub pays : (done : D) → owes x.task done → owes first done

  -- Some tasks were enqueued. Each of their places waits or is kept by a pass, once, however the places are weighed,
  -- and each waiting task owes no more than the one first enqueued at its place.
  pub record Holds (items : List (Waiting T)) (views : List (Holding T)) : Type 0 where
    pub enqueued : List T
    pub parts : total (λ (v : Holding T). v.parts) views ≡ all_parts
    pub once : (weight : ℕ → ℕ) → total (λ (v : Holding T). kept_weight weight v.kept) views + waiting_weight weight items ≡ below weight (length enqueued)
    pub waiting : AllByRecursion (Owing enqueued) items
    pub hands : (pass : ℕ) (v : Holding T) → get_elem? views pass ≡ some v → Fits enqueued v

  -- what a pop tells: the place is kept, with the task first enqueued there, and there was room for it
  pub record Takes (v : Holding T) (x : Waiting T) (w : Holding T) : Type 0 where
    pub first : T
    pub keeps : w ≡ record v { kept = v.kept ++ (x.place, first) ∷ []; taken = v.taken ++ (x.place, x.task) ∷ [] }
    pub at : slice_get v.enqueued x.place ≡ Some first
    pub pays : (done : D) → owes x.task done → owes first done
    pub room : length v.kept < length v.enqueued

-- what a push of one more task tells: it was enqueued at the next place
abbrev pub Enqueues : {T : Type 0} → Holding T → Waiting T → Holding T → Type 0
Enqueues v x w = w ≡ record v { enqueued = v.enqueued ++ x.task ∷ [] }

-- what a push of a task that was taken last tells: its place is kept no longer
abbrev pub Gives : {T : Type 0} → Holding T → Waiting T → Holding T → Type 0
Gives v x w = w ≡ record v { kept = take (length v.kept - 1) v.kept; given = v.given ++ (x.place, x.task) ∷ [] }

-- what the pass with all parts learns: each place is kept by it or waits, once
abbrev pub Counts : {T : Type 0} → Holding T → List (Waiting T) → Type 0
Counts v items = v.parts ≡ all_parts → (weight : ℕ → ℕ) → kept_weight weight v.kept + waiting_weight weight items ≡ below weight (length v.enqueued)

-- what a pass with a part learns: no more tasks wait than were enqueued
abbrev pub IsWithin : {T : Type 0} → Holding T → List (Waiting T) → Type 0
IsWithin v items = 0 < v.parts → length items ≤ length v.enqueued
