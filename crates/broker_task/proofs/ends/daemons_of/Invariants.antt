use Rattle.std.proofs.Common.{◌≡◌, ◌≤◌, ◌+◌, ◌++◌, length, take, vec_len, vec_capacity}
use Rattle.std.specs.Vec.Iter.{into_iter_items}
use Rattle.std.specs.List.{AllByRecursion as Each}
use Rattle.broker_task.specs.Given.{IsNewClient}
use Rattle.broker_task.specs.Starting.{AreStarted}
use Rattle.broker_task.proofs.ends.daemons_of.Given as goal

abbrev pub invariant-loop-control : goal.invariant-loop-control
invariant-loop-control l = record {
  left : l.yielded ++ into_iter_items l.control-iterator ≡ l.fn.controls.items;
  room : vec_len l.daemons + length (into_iter_items l.control-iterator) ≤ vec_capacity l.daemons;
  fresh : Each IsNewClient (into_iter_items l.control-iterator);
  at : l.domain ≡ length l.yielded;
  count : length l.daemons.items ≡ l.domain;
  started : AreStarted 1 (take l.domain l.awaited) l.yielded l.daemons.items;
}
