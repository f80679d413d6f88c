use Rattle.task_duties.specs.TaskOwes.{places_in}
use Rattle.task_duties.specs.GivenEnds.{all_given}
use Rattle.agent_slots.proofs.IndexLaws.{IsIndexUpTo}
use Rattle.agent_slots.proofs.index.index_of.Given as goal

abbrev pub invariant-loop-at : goal.invariant-loop-at
invariant-loop-at l = IsIndexUpTo l.at (places_in (all_given l.ends)) l.index
