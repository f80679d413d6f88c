use Rattle.std.proofs.Common.{◌≡◌, ◌+◌, ◌≤◌, ◌/◌, ◌++◌, true, false, length, vec_len, vec_capacity}
use Rattle.service_gate.specs.ServiceResult.{every_other}
use Rattle.service_gate.proofs.append.append_in_turn.Given as goal

abbrev pub decreases-pairs : goal.decreases-pairs
decreases-pairs l = length l.rest

abbrev pub invariant-pairs : goal.invariant-pairs
invariant-pairs l = record {
  firsts : l.first.items ++ every_other true l.rest ≡ l.initial.first.items ++ every_other true l.piece;
  seconds : l.second.items ++ every_other false l.rest ≡ l.initial.second.items ++ every_other false l.piece;
  first_room : vec_len l.first + (length l.rest + 1) / 2 ≤ vec_capacity l.first;
  second_room : vec_len l.second + length l.rest / 2 ≤ vec_capacity l.second;
}
