use Rattle.std.proofs.Common.{◌≡◌, ◌++◌, map}
use Rattle.std.specs.Vec.Iter.{into_iter_items}
use Rattle.std.specs.List.{AllZip as EachPair}
use Rattle.agent_queue.specs.Inside.{IsFresh}
use Rattle.agent_queue.proofs.setup.queued.Given as goal

-- the calls so far are kept, and the others are left
abbrev pub invariant-loop-plan : goal.invariant-loop-plan
invariant-loop-plan l = record {
  so_far : EachPair (IsFresh (map (λ c. c.to) l.fn.calls.items)) l.yielded l.queued.items;
  left : l.yielded ++ into_iter_items l.plan-iterator ≡ l.fn.calls.items;
}
