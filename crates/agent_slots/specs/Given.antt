-- Slots of ends as they were given.
use Rattle.std.specs.Prelude.{List, map}
use Rattle.task_duties.specs.declared.ends.DataEnd.{DataEnd}
use Rattle.agent_slots.specs.declared.slot.Slot.{Slot}
use Rattle.agent_slots.specs.declared.stage.Stage.TheVariants.{Unused}

abbrev pub unused_slot : DataEnd → Slot
unused_slot d = record { from = d.from; to = d.to; port = d.port; stage = Unused d.end }

abbrev pub unused_slots : List DataEnd → List Slot
unused_slots ends = map unused_slot ends
