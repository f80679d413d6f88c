use Rattle.std.proofs.Common.{◌≡◌, ℕ, List, length}
use Rattle.vchan_packet.specs.declared.RecvAnswer.{RecvAnswer}
use Rattle.vchan_rule.specs.Seated.{SeatedEnd, view, IsOpen}
use Rattle.vchan_rule.specs.Ends.{IsSameEnd}
use Rattle.vchan_rule.specs.Called.{most_asked}
use Rattle.vchan_block.specs.Rounds.{Receives}
use Rattle.vchan_block.proofs.receiving.recv.Given as goal

-- nothing was got, and whatever the rounds from here on come to is what all of them come to
abbrev pub invariant-rounds : goal.invariant-rounds
invariant-rounds g l = record {
  same : IsSameEnd l.initial.end l.end;
  open_is : IsOpen l.end;
  view_is : view l.end ≡ view l.initial.end;
  kept : l.buf ≡ l.initial.buf;
  long : length l.buf ≡ length l.initial.buf;
  goes_on : (buffer : List ℕ) (new : SeatedEnd) (answer : RecvAnswer) → Receives (most_asked l.initial.buf) answer buffer l.end new → Receives (most_asked l.initial.buf) answer buffer l.initial.end new;
}
