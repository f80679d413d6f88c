-- The tasks of a run, before they are made and after.
-- Source: this project's own.
use Rattle.std.specs.Prelude.{◌≡◌, ℕ, ◌≤◌, ◌+◌, [], Vec, length, map, vec_capacity}
use Rattle.std.specs.Global.{Global}
use Rattle.vchan_rule.specs.Seated.{view}
use Rattle.scenario_file.specs.Scenario.{Plan as Scenario}
use Rattle.task_duties.specs.declared.ends.RetiredEnd.{RetiredEnd}
use Rattle.task_duties.specs.TaskOwes.{broker_given}
use Rattle.run_laws.specs.Laid.{awaited_by, hub_of}
use Rattle.scenario_run.specs.declared.run_task.TaskStage.{TaskStage}
use Rattle.scenario_run.specs.declared.run_task.TaskStage.TheVariants.{Broker, Domain, Made}
use Rattle.scenario_run.specs.Tasks.{AreControlsOf, IsHandOf, domain_given}
use Rattle.scenario_run.specs.Turns.{RunState, Waits, Runs}

-- an empty list has room for so many ends
abbrev pub HasRoom : ℕ → Vec RetiredEnd Global → Type 0
HasRoom count retired = (retired.items ≡ []) × (count ≤ vec_capacity retired)

-- the task may be made from these ends, or they may retire
abbrev pub MayMake : Scenario → TaskStage → Type 0
MayMake s (Broker controls retired) = AreControlsOf s controls.items × HasRoom (length controls.items) retired
MayMake s (Domain number hand retired) = ((1 ≤ number) × (number ≤ length s.domains)) × IsHandOf s number hand × HasRoom (length hand.payload.items + 1) retired
MayMake s (Made task) = Unit {0}

-- the task as its pool sees it
abbrev pub state_at : Scenario → TaskStage → RunState
state_at s (Broker controls retired) = Waits (broker_given (hub_of s) (awaited_by s) (map view controls.items))
state_at s (Domain number hand retired) = Waits (domain_given s number hand)
state_at s (Made task) = Runs task
