use Rattle.std.proofs.Common.{◌≡◌, ◌+◌, ◌-◌, ◌≤◌, ◌++◌, length, take, map, vec_len, vec_capacity}
use Rattle.qrexec_frame.specs.Lines.{shown_byte}
use Rattle.qrexec_frame.proofs.line.put_shown.Given as goal

abbrev pub invariant-loop-b : goal.invariant-loop-b
invariant-loop-b l = record {
  items : l.out.items ≡ l.fn.out.items ++ map shown_byte (take l.b-index l.text);
  len : vec_len l.out ≡ vec_len l.fn.out + l.b-index;
  room : vec_len l.out + (length l.text - l.b-index) ≤ vec_capacity l.out;
  capacity : vec_capacity l.fn.out ≤ vec_capacity l.out;
}
