-- The rings that were read, as contracts see them.
use Rattle.scenario_file.specs.declared.rings.Rings.{Rings}
use Rattle.scenario_file.specs.Scenario.{order_numbers}
use Rattle.scenario_file.specs.Tables.{RingsRead}

-- the orders by their numbers
abbrev pub rings_seen : Rings → RingsRead
rings_seen rings = record { control = order_numbers rings.control; payload = order_numbers rings.payload; first_index = rings.start }
