-- A task that is done retires its ends.
-- Source: this project's own.
use Rattle.std.specs.Prelude.{◌≡◌, ℕ, ◌∷◌}
use Rattle.std.specs.List.{AllZip as EachPair}
use Rattle.hostile_task.specs.Pages.{IsRetiredOf}
use Rattle.hostile_task.specs.declared.pages.Pages.{Pages}
use Rattle.hostile_task.specs.Plan.{HostileState}
use Rattle.task_duties.specs.declared.ends.TaskTurn.{TaskTurn}
use Rattle.hostile_task.specs.declared.task.HostileDone.{HostileDone}
use Rattle.task_duties.specs.declared.ends.TaskTurn.TheVariants as turn

-- it gives its number and all ends in their order
abbrev pub Finishes : ℕ → Pages → TaskTurn HostileState HostileDone → Type 0
Finishes domain pages (turn.Again task) = ⊥
Finishes domain pages (turn.Done done) = (done.domain ≡ domain) × EachPair IsRetiredOf (pages.control ∷ pages.payload.items) done.ends.items
Finishes domain pages (turn.NoMemory ends) = ⊥
