use Rattle.std.proofs.Common.{◌≡◌, ◌+◌, ◌≤◌, ◌-◌, None, replicate, vec_len, vec_capacity}
use Rattle.task_pool.proofs.account.blank_answers.Given as goal

abbrev pub invariant-loop-place : goal.invariant-loop-place
invariant-loop-place g l = record {
  blank : l.answers.items ≡ replicate l._place None;
  room : vec_len l.answers + (l.count - l._place) ≤ vec_capacity l.answers;
}
