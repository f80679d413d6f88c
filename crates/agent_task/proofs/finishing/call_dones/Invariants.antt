use Rattle.std.proofs.Common.{◌≡◌, ◌+◌, ◌++◌, length, drop}
use Rattle.std.specs.Vec.Iter.{into_iter_items}
use Rattle.agent_queue.specs.Queue.{asked_by}
use Rattle.agent_task.specs.Finishing.{call_dones}
use Rattle.agent_task.proofs.finishing.call_dones.Given as goal

abbrev pub invariant-loop-session : goal.invariant-loop-session
invariant-loop-session l = record {
  can_next : (goal.iterator-loop-session).can_next l.session-iterator;
  is_finite : (goal.iterator-loop-session).is_finite l.session-iterator;
  made : l.done.items ++ call_dones (drop (length l.done.items) (asked_by l.queue)) (into_iter_items l.session-iterator) ≡ call_dones (asked_by l.queue) l.fn.over.items;
  long : length l.done.items + length (into_iter_items l.session-iterator) ≡ length (asked_by l.queue);
}
