use Rattle.std.proofs.Common.{◌≡◌}
use Rattle.vchan_packet.specs.declared.SendAnswer.{SendAnswer}
use Rattle.vchan_rule.specs.Seated.{SeatedEnd, view, IsOpen}
use Rattle.vchan_rule.specs.Ends.{IsSameEnd}
use Rattle.vchan_block.specs.Rounds.{Sends}
use Rattle.vchan_block.proofs.sending.send.Given as goal

-- nothing was sent, and whatever the rounds from here on come to is what all of them come to
abbrev pub invariant-rounds : goal.invariant-rounds
invariant-rounds g l = record {
  same : IsSameEnd l.initial.end l.end;
  open_is : IsOpen l.end;
  view_is : view l.end ≡ view l.initial.end;
  goes_on : (new : SeatedEnd) (answer : SendAnswer) → Sends l.bytes answer l.end new → Sends l.bytes answer l.initial.end new;
}
