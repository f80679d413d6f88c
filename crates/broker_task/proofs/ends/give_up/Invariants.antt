use Rattle.std.proofs.Common.{◌≡◌, ◌≤◌, ◌+◌, ◌++◌, true, length, vec_len, vec_capacity}
use Rattle.std.specs.Vec.Iter.{into_iter_items}
use Rattle.std.specs.List.{AllByRecursion as Each, AllZip as EachPair}
use Rattle.broker_task.specs.Lines.{end_of}
use Rattle.broker_task.specs.Given.{IsGivenBack}
use Rattle.broker_task.proofs.ends.give_up.Given as goal

abbrev pub invariant-loop-daemon : goal.invariant-loop-daemon
invariant-loop-daemon l = record {
  left : l.yielded ++ into_iter_items l.daemon-iterator ≡ l.fn.daemons.items;
  room : vec_len l.ends + length (into_iter_items l.daemon-iterator) ≤ vec_capacity l.ends;
  idle : Each (λ x. (end_of x).idle ≡ true) (into_iter_items l.daemon-iterator);
  pairs : EachPair IsGivenBack l.yielded l.ends.items;
}
