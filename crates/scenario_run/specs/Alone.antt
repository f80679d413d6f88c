-- A run of a scenario in rounds.
-- Source: this project's own.
use Rattle.std.specs.Prelude.{◌≡◌, ℕ, ◌<◌, ◌^◌, List, length, map}
use Rattle.std.specs.List.{AllZip}
use Rattle.end_view.specs.EndView.{EndView}
use Rattle.scenario_file.specs.Scenario.{Plan as Scenario}
use Rattle.task_pool.specs.declared.rounds.Rounds.{Rounds}
use Rattle.task_pool.specs.declared.rounds.Rounds.TheVariants as rounds
use Rattle.task_pool.specs.Rounds.{Comes}
use Rattle.domain_task.specs.declared.done.TaskDone.{TaskDone}
use Rattle.domain_task.specs.Owes.{answer_of}
use Rattle.run_laws.specs.Lawful.{IsLawful}
use Rattle.run_pages.specs.declared.deal.Hand.{Hand}
use Rattle.run_pages.specs.Pages.{PageAt}
use Rattle.scenario_run.specs.declared.run.AloneRun.{AloneRun}
use Rattle.scenario_run.specs.declared.run.AloneRun.TheVariants.{Reported, WentOn}
use Rattle.scenario_run.specs.Turns.{Owes, RunState, RunTurns}
use Rattle.scenario_run.specs.Tasks.{AreTasksOf}
use Rattle.scenario_run.specs.Answering.{AreAnswers}

-- they are the tasks of the scenario, and if each gives what it owes, all together answer as a run over these pages must
pub record AreDealt (s : Scenario) (pages : List PageAt) (tasks : List RunState) : Type 0 where
  pub controls : List EndView
  pub hands : List Hand
  pub of : AreTasksOf s controls hands tasks
  pub answers : (dones : List TaskDone) → AllZip Owes tasks dones → AreAnswers s pages (map answer_of dones)
  pub few : length tasks < 2 ^ 32

-- a task of the scenario wants another turn after so many rounds, in each of which every task made one until it was done
abbrev pub GoesOnAfter : Scenario → ℕ → Type 0
GoesOnAfter s count = (tasks : List RunState) × (controls : List EndView) × (hands : List Hand) × AreTasksOf s controls hands tasks × Comes Owes RunTurns count tasks rounds.WentOn

-- so many rounds at most were made over these pages
abbrev pub TurnedTo : Scenario → List PageAt → ℕ → Rounds TaskDone → Type 0
TurnedTo s pages count (rounds.AllDone dones) = AreAnswers s pages (map answer_of dones.items)
TurnedTo s pages count rounds.WentOn = GoesOnAfter s count

-- how a run ends that has so many rounds at most
abbrev pub RunsAlone : Scenario → ℕ → AloneRun → Type 0
RunsAlone s count (Reported report) = IsLawful s report
RunsAlone s count WentOn = GoesOnAfter s count
