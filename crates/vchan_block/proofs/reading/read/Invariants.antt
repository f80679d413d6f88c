use Rattle.std.proofs.Common.{◌≡◌, ℕ, List, length}
use Rattle.vchan_rule.specs.Seated.{SeatedEnd, view, IsOpen}
use Rattle.vchan_rule.specs.Ends.{IsSameEnd}
use Rattle.vchan_rule.specs.Called.{most_asked}
use Rattle.vchan_block.specs.declared.reading.BlockRead.{BlockRead}
use Rattle.vchan_block.specs.Rounds.{Reads}
use Rattle.vchan_block.proofs.reading.read.Given as goal

-- nothing was got, and whatever the rounds from here on come to is what all of them come to
abbrev pub invariant-rounds : goal.invariant-rounds
invariant-rounds g l = record {
  same : IsSameEnd l.initial.end l.end;
  open_is : IsOpen l.end;
  view_is : view l.end ≡ view l.initial.end;
  kept : l.buf ≡ l.initial.buf;
  long : length l.buf ≡ length l.initial.buf;
  goes_on : (buffer : List ℕ) (new : SeatedEnd) (answer : BlockRead) → Reads (most_asked l.initial.buf) buffer l.end new answer → Reads (most_asked l.initial.buf) buffer l.initial.end new answer;
}
