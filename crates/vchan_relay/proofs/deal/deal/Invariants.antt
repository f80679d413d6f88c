use Rattle.std.proofs.Common.{◌≡◌, ◌+◌, ◌++◌, [], List, length, drop}
use Rattle.vchan_rule.specs.Seated.{PageStart, view, IsOpen}
use Rattle.ring_words.specs.declared.page.Role.TheVariants.{Server}
use Rattle.vchan_relay.specs.declared.task.HopTask.{HopTask}
use Rattle.vchan_relay.specs.Laying.{AreLaid}
use Rattle.vchan_relay.specs.Owes.{AreTasks, FollowOn}
use Rattle.vchan_relay.proofs.deal.deal.Given as goal

-- the pages from the index on are left, with their seats; the reader of the page before them is open; and whatever follows on from there completes the tasks
abbrev pub invariant-loop-next : goal.invariant-loop-next
invariant-loop-next l = record {
  can_next : (goal.iterator-loop-next).can_next l.next-iterator;
  is_finite : (goal.iterator-loop-next).is_finite l.next-iterator;
  laid : (words : PageStart) × AreLaid words (drop l.index l.pages) l.next-iterator.rest.items;
  near : IsOpen l.near × (l.near.side.role ≡ Server) × ((view l.near).got ≡ []);
  goes_on : (more : List HopTask) → FollowOn (length l.fn.bytes.items + 1) l.near.page (drop l.index l.pages) more → AreTasks l.fn.bytes.items (length l.fn.bytes.items + 1) l.pages (l.tasks.items ++ more);
}
