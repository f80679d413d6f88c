use Rattle.std.proofs.Common.{◌≡◌, ◌+◌, ◌≤◌, ◌++◌, length}
use Rattle.std.specs.Prelude.{vec_capacity}
use Rattle.std.specs.Vec.Iter.{into_iter_items}
use Rattle.agent_slots.specs.Given.{unused_slots}
use Rattle.agent_slots.proofs.setup.unused_slots.Given as goal

abbrev pub invariant-loop-from : goal.invariant-loop-from
invariant-loop-from l = record {
  can_next : (goal.iterator-loop-from).can_next l.from-iterator;
  is_finite : (goal.iterator-loop-from).is_finite l.from-iterator;
  filled : l.slots.items ++ unused_slots (into_iter_items l.from-iterator) ≡ unused_slots l.fn.ends.items;
  room : length l.slots.items + length (into_iter_items l.from-iterator) ≤ vec_capacity l.slots;
}
