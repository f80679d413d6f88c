-- What the tasks of a scenario answer when they are done.
-- Source: this project's own.
use Rattle.std.specs.Prelude.{◌≡◌, ℕ, ◌+◌, ◌≤◌, List, length}
use Rattle.scenario_file.specs.Scenario.{Plan as Scenario}
use Rattle.task_duties.specs.TaskOwes.{EndAt, TaskGiven, Agent, Broker, Hostile, TaskDone, TaskOwes}
use Rattle.run_laws.specs.Results.{IsGivenTo, answer_at}
use Rattle.run_pages.specs.Pages.{PageAt, new_ends}

-- the ends that a task is given
abbrev pub ends_given : TaskGiven → List EndAt
ends_given (Agent plan ends) = ends
ends_given (Broker hub awaited ends) = ends
ends_given (Hostile plan ends) = ends

-- the task with this number was given its ends of these pages, on which nothing had happened, and answers as it owes
abbrev pub Answers : Scenario → List PageAt → List TaskDone → ℕ → Type 0
Answers s pages dones number =
    (given : TaskGiven) × IsGivenTo s number given × (ends_given given ≡ new_ends pages number) × TaskOwes given (answer_at dones number)

-- all tasks answer so: the broker's, and those of the domains in order
pub record AreAnswers (s : Scenario) (pages : List PageAt) (dones : List TaskDone) : Type 0 where
  pub count : length dones ≡ length s.domains + 1
  pub each : (number : ℕ) → number ≤ length s.domains → Answers s pages dones number
