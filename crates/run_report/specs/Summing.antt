-- The sums while the calls are counted one after another.
use Rattle.std.specs.Prelude.{◌≡◌, ℕ, ◌+◌, ◌≤◌, List, ◌++◌, length}
use Rattle.scenario_file.specs.declared.scenario.CallPlan.{CallPlan}
use Rattle.run_laws.specs.declared.report.CallLine.{CallLine}
use Rattle.run_report.specs.Summary.{DoneCall, Totals, totals, done_calls}

-- these are the totals of the calls that were counted, and with those of the calls that are left they are all; there are at most `most` of
-- them
pub record IsSumming (sums : Totals) (calls : List CallPlan) (lines : List CallLine) (all : List DoneCall) (most : ℕ) : Type 0 where
  pub dones : List DoneCall
  pub are : sums ≡ totals dones
  pub all_are : dones ++ done_calls calls lines ≡ all
  pub few : length dones + length calls ≤ most
