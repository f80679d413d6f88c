use Rattle.std.proofs.Common.{◌+◌, ◌++◌, ◌≤◌, List, length}
use Rattle.std.specs.List.{AllByRecursion as Each}
use Rattle.vchan_persist.specs.declared.epoch.EpochDone.{EpochDone}
use Rattle.vchan_persist.specs.Clients.{IsServable}
use Rattle.vchan_persist.specs.Epochs.{AreEpochs}
use Rattle.vchan_persist.proofs.serve.serve_clients.Given as goal

-- the clients that are left are in range, and whatever epochs they have complete those so far
abbrev pub invariant-loop-client : goal.invariant-loop-client
invariant-loop-client g l = record {
  can_next : (goal.iterator-loop-client g).can_next l.client-iterator;
  is_finite : (goal.iterator-loop-client g).is_finite l.client-iterator;
  servable : Each IsServable l.client-iterator.rest.items;
  few : l.number + length l.client-iterator.rest.items ≤ 4097;
  goes_on : (more : List EpochDone) → AreEpochs l.name (record { orders = l.orders; start = l.start }) l.number l.client-iterator.rest.items more → AreEpochs l.name (record { orders = l.orders; start = l.start }) 1 l.fn.clients.items (l.dones.items ++ more);
}
