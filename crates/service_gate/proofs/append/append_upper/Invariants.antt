use Rattle.std.proofs.Common.{◌≡◌, ◌+◌, ◌-◌, ◌≤◌, ◌++◌, length, map, take, vec_len, vec_capacity}
use Rattle.std.specs.Char.{to_ascii_uppercase}
use Rattle.service_gate.proofs.append.append_upper.Given as goal

abbrev pub invariant-loop-byte : goal.invariant-loop-byte
invariant-loop-byte l = record {
  done : l.out.items ≡ l.initial.out.items ++ map to_ascii_uppercase (take l.byte-index l.piece);
  room : vec_len l.out + (length l.piece - l.byte-index) ≤ vec_capacity l.out;
}
