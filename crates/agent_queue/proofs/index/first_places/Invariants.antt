use Rattle.std.proofs.Common.{◌≡◌, length, map, take}
use Rattle.std.specs.List.{AllZip as EachPair}
use Rattle.agent_queue.specs.Index.{HasTargets, IsFirst}
use Rattle.agent_queue.proofs.index.first_places.Given as goal

-- the targets so far are noted, and their places are the first ones
abbrev pub invariant-loop-call : goal.invariant-loop-call
invariant-loop-call l = record {
  long : length l.places.items ≡ l.call-index;
  noted : HasTargets (map (λ c. c.to) (take l.call-index l.calls)) l.targets;
  first : EachPair (IsFirst (map (λ c. c.to) l.calls)) (map (λ c. c.to) (take l.call-index l.calls)) l.places.items;
}
