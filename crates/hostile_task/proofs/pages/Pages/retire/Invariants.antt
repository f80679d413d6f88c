use Rattle.std.proofs.Common.{◌≡◌, ◌≤◌, ◌+◌, ◌++◌, ◌∷◌, length, vec_len, vec_capacity}
use Rattle.std.specs.Vec.Iter.{into_iter_items}
use Rattle.std.specs.List.{AllZip as EachPair}
use Rattle.hostile_task.specs.Pages.{IsRetiredOf}
use Rattle.hostile_task.proofs.pages.Pages.retire.Given as goal

abbrev pub invariant-loop-page : goal.invariant-loop-page
invariant-loop-page l = record {
  left : l.yielded ++ into_iter_items l.page-iterator ≡ l.fn.self.payload.items;
  room : vec_len l.ends + length (into_iter_items l.page-iterator) ≤ vec_capacity l.ends;
  pairs : EachPair IsRetiredOf (l.fn.self.control ∷ l.yielded) l.ends.items;
}
