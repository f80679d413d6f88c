-- The data pages of a run by their places.
-- Source: this project's own.
use Rattle.std.specs.Prelude.{◌≡◌, ℕ, ◌<◌, List, length, Some, None}
use Rattle.task_duties.specs.declared.place.PagePlace.{PagePlace}
use Rattle.task_duties.specs.declared.place.PagePlace.TheVariants.{Payload}
use Rattle.agent_slots.specs.Index.{PlaceIndex, end_at}
use Rattle.run_laws.specs.ReadOff.{index_of}
use Rattle.scenario_run.specs.declared.page_index.PageIndex.{PageIndex}

-- the numbers have the first page at each place where a data page lies, and nothing else
pub record AreNumbers (places : List PagePlace) (numbers : PlaceIndex) : Type 0 where
  pub none : (from to port : ℕ) → end_at numbers from to port ≡ None → index_of (Payload from to port) places ≡ length places
  pub some : (from to port number : ℕ) → end_at numbers from to port ≡ Some number → (index_of (Payload from to port) places ≡ number) × (number < length places)

-- the index of pages at these places
pub record IsIndexOf (places : List PagePlace) (index : PageIndex) : Type 0 where
  pub numbers : AreNumbers places index.numbers
  pub count : index.count ≡ length places
