-- What tasks give that take turns in rounds.
use Rattle.std.specs.Prelude.{◌≡◌, ◌⊎◌, ℕ, zero, suc, ◌<◌, List, Bool, Option, Some, None, is_some, All, Any}
use Rattle.std.specs.List.{AllZip}
use Rattle.task_pool.specs.declared.task.Turn.{Turn}
use Rattle.task_pool.specs.declared.task.Turn.TheVariants.{Again, Done}
use Rattle.task_pool.specs.declared.rounds.Rounds.{Rounds}
use Rattle.task_pool.specs.declared.rounds.Rounds.TheVariants.{AllDone, WentOn}
use Rattle.task_pool.specs.declared.rounds.Seat.{Seat}

-- a task that wants another turn, and one that is done and gave this
abbrev pub going : {T D : Type 0} → T → Seat T D
going now = record { task = Some now; done = None }

abbrev pub over : {T D : Type 0} → D → Seat T D
over done = record { task = None; done = Some done }

-- whether the task wants another turn
abbrev pub is_going : {T D : Type 0} → Seat T D → Bool
is_going seat = is_some seat.task

abbrev pub IsOver : {T D : Type 0} → Seat T D → Type 0
IsOver {T} {D} seat = (done : D) × (seat ≡ over done)

module _ {T D : Type 0} (owes : T → D → Type 0) (turns : T → Turn T D → Type 0) where
  -- the task wanted another turn after each of so many, and is this one now
  abbrev pub GoesOn : ℕ → T → T → Type 0
  GoesOn zero first now = now ≡ first
  GoesOn (suc n) first now = (before : T) × GoesOn n first before × turns before (Again now)

  -- the task gave what it owed, in its last turn, before which there were fewer than so many
  pub record Gives (most : ℕ) (first : T) (done : D) : Type 0 where
    pub count : ℕ
    pub few : count < most
    pub last : T
    pub went : GoesOn count first last
    pub gave : turns last (Done done)
    pub owed : owes first done

  -- how a task stands after so many rounds: it made a turn in each and owes no more than at first, or it is done
  abbrev pub Stands : ℕ → T → Option T → Option D → Type 0
  Stands n first (Some now) None = GoesOn n first now × ((done : D) → owes now done → owes first done)
  Stands n first None (Some done) = Gives n first done
  Stands n first (Some now) (Some done) = ⊥
  Stands n first None None = ⊥

  abbrev pub StandsAfter : ℕ → T → Seat T D → Type 0
  StandsAfter n first seat = Stands n first seat.task seat.done

  -- the same task, after one round more
  abbrev pub StandsOn : Seat T D → Seat T D → Type 0
  StandsOn before after = (first : T) (n : ℕ) → StandsAfter n first before → StandsAfter (suc n) first after

  -- So many rounds at most were made. All tasks gave what they owed; or one goes on after the last round, and each made a turn in
  -- every round until it was done.
  abbrev pub Comes : ℕ → List T → Rounds D → Type 0
  Comes rounds tasks (AllDone dones) = AllZip (Gives rounds) tasks dones.items
  Comes rounds tasks WentOn = All (λ first. ((now : T) × GoesOn rounds first now) ⊎ ((done : D) × Gives rounds first done)) tasks × Any (λ first. (now : T) × GoesOn rounds first now) tasks
