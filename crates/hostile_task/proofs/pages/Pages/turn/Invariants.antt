use Rattle.std.proofs.Common.{◌≡◌, ◌≤◌, ◌+◌, ◌++◌, length, vec_len, vec_capacity}
use Rattle.std.specs.Vec.Iter.{into_iter_items}
use Rattle.std.specs.List.{AllZip as EachPair, AllByRecursion as Each}
use Rattle.hostile_task.specs.Pages.{IsDataTurnedOver, IsLaid}
use Rattle.hostile_task.proofs.pages.Pages.turn.Given as goal

abbrev pub invariant-loop-given : goal.invariant-loop-given
invariant-loop-given l = record {
  left : l.yielded ++ into_iter_items l.given-iterator ≡ l.fn.payload.items;
  room : vec_len l.turned + length (into_iter_items l.given-iterator) ≤ vec_capacity l.turned;
  laid : Each IsLaid (into_iter_items l.given-iterator);
  pairs : EachPair IsDataTurnedOver l.yielded l.turned.items;
}
