use Rattle.std.proofs.Common.{◌++◌, List, ℕ}
use Rattle.end_view.specs.Settled.{Settled}
use Rattle.vchan_relay.specs.Joints.{JoinedEnds}
use Rattle.vchan_relay.specs.Owes.{AreLeft}
use Rattle.vchan_relay.specs.Settling.{AreAllSettledBy, AreSettledBy}
use Rattle.vchan_relay.proofs.settle.settle.Given as goal

-- the pages that are left have their ends, and whatever they are settled to completes what is settled
abbrev pub invariant-loop-page : goal.invariant-loop-page
invariant-loop-page l = record {
  can_next : (goal.iterator-loop-page).can_next l.page-iterator;
  is_finite : (goal.iterator-loop-page).is_finite l.page-iterator;
  left : (room : ℕ) × AreLeft room l.page-iterator.rest.items l.client l.dones.rest.items;
  goes_on : (more : List Settled) (joints : List JoinedEnds) (got : List ℕ) → AreSettledBy l.page-iterator.rest.items l.client l.dones.rest.items more joints got
      → AreAllSettledBy l.fn.pages.items l.fn.dones.items (l.settled.items ++ more) (l.joints.items ++ joints) got;
}
