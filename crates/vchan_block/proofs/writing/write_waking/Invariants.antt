use Rattle.std.proofs.Common.{◌≡◌, ◌++◌, ◌≤◌, length, take}
use Rattle.vchan_rule.specs.Seated.{SeatedEnd, view, IsOpen}
use Rattle.vchan_rule.specs.Ends.{IsSameEnd}
use Rattle.vchan_block.specs.declared.writing.BlockWrite.{BlockWrite}
use Rattle.vchan_block.specs.Rounds.{Writes}
use Rattle.vchan_block.proofs.writing.write_waking.Given as goal

-- this many bytes were sent, and whatever the rounds from here on come to is what all of them come to
abbrev pub invariant-rounds : goal.invariant-rounds
invariant-rounds g l = record {
  same : IsSameEnd l.initial.end l.end;
  open_is : IsOpen l.end;
  within : l.moved ≤ length l.bytes;
  view_is : view l.end ≡ record (view l.initial.end) { sent = (view l.initial.end).sent ++ take l.moved l.bytes };
  goes_on : (new : SeatedEnd) (answer : BlockWrite) → Writes l.bytes l.moved l.end new answer → Writes l.bytes 0 l.initial.end new answer;
}
