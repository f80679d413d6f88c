use Rattle.std.proofs.Common.{◌≡◌, take}
use Rattle.std.specs.Prelude.{count_by}
use Rattle.agent_slots.specs.Whole.{frames, is_late_at}
use Rattle.agent_slots.proofs.slots.DataSlots.pages_in_use.Given as goal

abbrev pub invariant-loop-at : goal.invariant-loop-at
invariant-loop-at l = l.count ≡ count_by (is_late_at (frames l.self-inside.ends.slots.items)) (take l.at-index l.self-inside.ends.busy.items)
