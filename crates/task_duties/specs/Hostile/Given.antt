-- What the task of a hostile domain is given.
-- Source: this project's own.
use Rattle.std.specs.Prelude.{ℕ, List}
use Rattle.ring_words.specs.declared.order.Orders.{Orders}
use Rattle.scenario_file.specs.declared.acts.Act.{Act}
use Rattle.task_duties.specs.declared.place.PagePlace.{PagePlace}

-- its domain, the names of all domains, its acts, the orders of control and data pages, and where its pages lie, the control page first
pub record HostilePlan : Type 0 where
  pub domain : ℕ
  pub names : List (List ℕ)
  pub acts : List Act
  pub control : Orders
  pub payload : Orders
  pub places : List PagePlace
