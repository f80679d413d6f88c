use Rattle.std.proofs.Common.{◌<◌, ◌-◌, ◌^◌, length, map, take, drop}
use Rattle.std.specs.List.{AllByRecursion as Each}
use Rattle.task_duties.specs.Words.{ident_of}
use Rattle.agent_queue.specs.Index.{place_in}
use Rattle.agent_queue.proofs.IndexLaws.{IsFilled}
use Rattle.agent_queue.proofs.index.index_of.Given as goal

-- the last calls so far are noted
abbrev pub invariant-loop-noted : goal.invariant-loop-noted
invariant-loop-noted l = record {
  filled : IsFilled (place_in l.index) (map (λ c. ident_of c.number) (take (length l.calls - l.noted) l.calls)) (map (λ c. ident_of c.number) l.calls);
  small : Each (λ c. c.number < 2 ^ 32) (drop (length l.calls - l.noted) l.calls);
}
