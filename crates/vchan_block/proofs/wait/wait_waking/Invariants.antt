use Rattle.std.proofs.Common.{◌≡◌}
use Rattle.vchan_rule.specs.Seated.{SeatedEnd, view, IsOpen}
use Rattle.vchan_rule.specs.Ends.{IsSameEnd}
use Rattle.vchan_block.specs.Rounds.{Waits}
use Rattle.vchan_block.proofs.wait.wait_waking.Given as goal

-- whatever the tries from here on come to is what all of them come to
abbrev pub invariant-tries : goal.invariant-tries
invariant-tries g l = record {
  same : IsSameEnd l.initial.end l.end;
  open_is : IsOpen l.end;
  view_is : view l.end ≡ view l.initial.end;
  goes_on : (new : SeatedEnd) → Waits l.end new → Waits l.initial.end new;
}
