use Rattle.std.proofs.Common.{◌≡◌, ◌≤◌, length, take}
use Rattle.vchan_rule.specs.Seated.{view, IsOpen}
use Rattle.vchan_rule.specs.Ends.{IsSameEnd}
use Rattle.vchan_block.proofs.piping.write_pieces.Given as goal

-- this many bytes were sent
abbrev pub invariant-pieces : goal.invariant-pieces
invariant-pieces g l = record {
  same : IsSameEnd l.initial.end l.end;
  open_is : IsOpen l.end;
  within : l.sent ≤ length l.bytes;
  sent : (view l.end).sent ≡ take l.sent l.bytes;
}
