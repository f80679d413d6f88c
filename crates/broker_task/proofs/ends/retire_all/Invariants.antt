use Rattle.std.proofs.Common.{◌≡◌, ◌≤◌, ◌+◌, ◌++◌, length, vec_len, vec_capacity}
use Rattle.std.specs.Vec.Iter.{into_iter_items}
use Rattle.std.specs.List.{AllByRecursion as Each, AllZip as EachPair}
use Rattle.broker_task.specs.Lines.{IsLine}
use Rattle.broker_task.specs.Given.{IsRetiredOf}
use Rattle.broker_task.proofs.ends.retire_all.Given as goal

abbrev pub invariant-loop-daemon : goal.invariant-loop-daemon
invariant-loop-daemon l = record {
  left : l.yielded ++ into_iter_items l.daemon-iterator ≡ l.fn.daemons.items;
  room : vec_len l.ends + length (into_iter_items l.daemon-iterator) ≤ vec_capacity l.ends;
  lines : Each (λ x. IsLine x.domain x) (into_iter_items l.daemon-iterator);
  pairs : EachPair IsRetiredOf l.yielded l.ends.items;
}
