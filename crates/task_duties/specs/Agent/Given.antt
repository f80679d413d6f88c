-- What an agent is given.
-- Source: this project's own.
use Rattle.std.specs.Prelude.{ℕ, List}
use Rattle.scenario_file.specs.declared.scenario.CallPlan.{CallPlan}
use Rattle.task_duties.specs.declared.place.PagePlace.{PagePlace}

-- its domain, the version that it announces, its calls, and where its data ends lie
pub record AgentPlan : Type 0 where
  pub domain : ℕ
  pub version : ℕ
  pub calls : List CallPlan
  pub places : List PagePlace
