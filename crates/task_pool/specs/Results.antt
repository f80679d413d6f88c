-- What the tasks gave, from a turn to the answers of the pool.
use Rattle.std.specs.Prelude.{◌≡◌, ℕ, ◌<◌, List, [], ◌∷◌, ◌++◌, length, slice_get, Option, Some}
use Rattle.std.specs.List.{AllByRecursion, AllZip}
use Rattle.crossbeam_queue.specs.Fifo.{Held}
use Rattle.task_pool.specs.declared.queue.Holding.{Holding}
use Rattle.task_pool.specs.declared.task.Turn.{Turn}
use Rattle.task_pool.specs.declared.task.Turn.TheVariants as turn
use Rattle.task_pool.specs.declared.waiting.Finished.{Finished}
use Rattle.task_pool.specs.declared.waiting.Tried.{Tried}
use Rattle.task_pool.specs.declared.waiting.Tried.TheVariants.{Idle, Again, Over}
use Rattle.task_pool.specs.Rule.{IsEnqueued, Counts, below, kept_weight}

module _ {T D : Type 0} (owes : T → D → Type 0) where
  -- a result for the place, which the task first enqueued there owed
  abbrev pub IsPaid : List T → (ℕ × T) → Finished D → Type 0
  IsPaid enqueued e f = (f.place ≡ e.0) × IsEnqueued enqueued e × owes e.1 f.done

  --   what a turn that brought a task to its end tells: its place is kept, and the result was owed there
  pub record Ends (v : Holding T) (f : Finished D) (w : Holding T) : Type 0 where
    pub first : T
    pub last : T
    pub keeps : w ≡ record v { kept = v.kept ++ (f.place, first) ∷ []; taken = v.taken ++ (f.place, last) ∷ [] }
    pub paid : IsPaid v.enqueued (f.place, first) f
    pub room : length v.kept < length v.enqueued

  --   a pass with one part, which enqueued these tasks, keeps just the places of these results
  pub record Keeps (enqueued : List T) (finished : List (Finished D)) (v : Holding T) : Type 0 where
    pub part : v.parts ≡ 1
    pub knows : v.enqueued ≡ enqueued
    pub paid : AllZip (IsPaid enqueued) v.kept finished

  -- the answers are as owed at their places, and there is one at each place that is kept
  pub record Settled (enqueued : List T) (kept : List (ℕ × T)) (answers : List (Option D)) : Type 0 where
    pub size : length answers ≡ length enqueued
    pub owed : (k : ℕ) (done : D) → slice_get answers k ≡ Some (Some done) → (first : T) × (slice_get enqueued k ≡ Some first) × owes first done
    pub filled : AllByRecursion (λ e. (done : D) × (slice_get answers e.0 ≡ Some (Some done))) kept

-- a pass keeps each place of the enqueued tasks once, however the places are weighed
abbrev pub IsWhole : {T : Type 0} → List T → List (ℕ × T) → Type 0
IsWhole enqueued kept = (weight : ℕ → ℕ) → kept_weight weight kept ≡ below weight (length enqueued)

module _ {T D : Type 0} (owes : T → D → Type 0) (turns : T → Turn T D → Type 0) where
  -- what a turn tells after which the task waits again: it is the task that was taken, after one turn
  pub record GoesRound (v w : Holding T) : Type 0 where
    pub place : ℕ
    pub before : T
    pub now : T
    pub same : w ≡ record v { taken = v.taken ++ (place, before) ∷ []; given = v.given ++ (place, now) ∷ [] }
    pub turn : turns before (turn.Again now)

  -- what a try to make a turn tells: no task waited at one moment; or one was taken, made one turn and waits again; or it made its last turn
  abbrev pub Tries : Holding T → Tried D → Holding T → Type 0
  Tries v Idle w = (w ≡ v) × Held 0 (Counts v)
  Tries v (Again _) w = GoesRound v w
  Tries v (Over f) w = (ends : Ends owes v f w) × turns ends.last (turn.Done f.done)
