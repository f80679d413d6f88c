-- A scenario whose rings aren't the usual ones, and what its pages are then: the row of a test.
use Rattle.std.specs.Prelude.{◌≡◌, ℕ}
use Rattle.run_laws.specs.Report.{SettledPage}
use Rattle.scenario_file.specs.Scenario.{Written, order_numbers}
use Rattle.task_duties.specs.declared.place.PagePlace.{PagePlace}
use Rattle.task_duties.specs.declared.place.PagePlace.TheVariants.{Control, Payload}

-- control pages have the orders 11 and 10, data pages 10 and 12, and all indices begin 6 below 2 ^ 32
pub record HasRowRings (w : Written) : Type 0 where
  pub control : w.control_orders ≡ (11, 10)
  pub payload : w.payload_orders ≡ (10, 12)
  pub start : w.first_index ≡ 4294967290

-- the orders of a page of the row, by its place
abbrev pub row_orders : PagePlace → ℕ × ℕ
row_orders (Control d) = (11, 10)
row_orders (Payload from to port) = (10, 12)

-- a page of the row: it has the orders of its kind, and its indices began where the row says
pub record IsOfRow (page : SettledPage) : Type 0 where
  pub orders : order_numbers page.settled.orders ≡ row_orders page.place
  pub start : page.settled.start ≡ 4294967290
