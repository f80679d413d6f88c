use Rattle.std.proofs.Common.{◌≡◌, ◌<◌, length, take}
use Rattle.vchan_rule.specs.Seated.{view, IsOpen}
use Rattle.vchan_rule.specs.Ends.{IsSameEnd}
use Rattle.vchan_block.proofs.piping.drain_all.Given as goal

-- the buffer begins with what was got, and has room for more
abbrev pub invariant-drains : goal.invariant-drains
invariant-drains g l = record {
  same : IsSameEnd l.initial.end l.end;
  open_is : IsOpen l.end;
  long : length l.buf ≡ length l.initial.buf;
  some : l.count < length l.buf;
  got : (view l.end).got ≡ take l.count l.buf;
}
