-- What a turn of the task of a hostile domain gives.
-- Source: this project's own.
use Rattle.std.specs.Prelude.{◌≡◌, ℕ, ◌+◌, ◌-◌, ◌<◌, ◌≤◌, List, [], ◌∷◌, Some, None, drop, length, slice_get}
use Rattle.std.specs.Option.{option_and_then}
use Rattle.std.specs.List.{AllByRecursion as Each, AllZip as EachPair}
use Rattle.scenario_file.specs.declared.acts.Act.{Act}
use Rattle.task_duties.specs.TaskOwes.{TaskOwes, Hostile, NoMemory, IsSameEnd}
use Rattle.task_duties.specs.TaskOwes as duty
use Rattle.task_duties.specs.GivenEnds.{all_retired}
use Rattle.task_duties.specs.Hostile.Trail.{words_of}
use Rattle.hostile_task.specs.Plan.{HostileState}
use Rattle.hostile_task.specs.UnderWay.{IsTrailSoFar, most_turns}
use Rattle.hostile_task.specs.declared.progress.Progress.{Progress}
use Rattle.task_duties.specs.declared.ends.TaskTurn.{TaskTurn}
use Rattle.hostile_task.specs.declared.task.HostileDone.{HostileDone}
use Rattle.task_duties.specs.declared.ends.TaskTurn.TheVariants as turn

-- ---- how many turns are left

-- how many turns some acts take at most
abbrev pub all_turns : List Act → ℕ
all_turns [] = 0
all_turns (act ∷ acts) = most_turns act + all_turns acts

-- how many are left at most, where so many of the acts are done and the next one has taken so many turns
abbrev pub turns_left : List Act → ℕ → ℕ → ℕ
turns_left acts done turns = all_turns (drop done acts) - turns

-- a turn leaves fewer turns, and exactly one fewer if the act says nothing
pub record TakesTurn (acts : List Act) (done turns done_then turns_then : ℕ) : Type 0 where
  pub fewer : turns_left acts done_then turns_then < turns_left acts done turns
  pub one : option_and_then words_of (slice_get acts done) ≡ None → turns_left acts done_then turns_then + 1 ≡ turns_left acts done turns

-- ---- how far it is

-- so many of the acts are done, and the next one, if there is one, has taken no more turns than it may
abbrev pub MayHaveTaken : List Act → ℕ → ℕ → Type 0
MayHaveTaken acts done turns = (act : Act) → slice_get acts done ≡ Some act → turns ≤ most_turns act

-- one beginning of the acts was done on all the ends: the acts that are done, and so many turns of the next one
pub record HasDone (s : HostileState) : Type 0 where
  pub within : s.acts ≤ length s.plan.acts
  pub same : EachPair IsSameEnd s.ends s.now
  pub progress : Progress
  pub acts_are : progress.acts ≡ s.acts
  pub turns_are : progress.turns ≡ s.turns
  pub few : MayHaveTaken s.plan.acts s.acts s.turns
  pub trails : Each (λ e. IsTrailSoFar s.plan e.place progress e.view.trail) s.now

-- the task as it was given, one turn further
pub record GoesOn (before now : HostileState) : Type 0 where
  pub plan : now.plan ≡ before.plan
  pub ends : now.ends ≡ before.ends
  pub turn : TakesTurn before.plan.acts before.acts before.turns now.acts now.turns
  pub so_far : HasDone now

-- a task that goes on does so by one turn; one that is done had no turn left, and gives what it owed; if memory ran out, the task gives all its ends back
abbrev pub Pays : HostileState → TaskTurn HostileState HostileDone → Type 0
Pays before (turn.Again task) = GoesOn before task
Pays before (turn.Done done) =
    (turns_left before.plan.acts before.acts before.turns ≡ 0) × TaskOwes (Hostile before.plan before.ends) (duty.HostileDone done.domain (all_retired done.ends.items))
Pays before (turn.NoMemory ends) = TaskOwes (Hostile before.plan before.ends) (NoMemory (all_retired ends.items))
