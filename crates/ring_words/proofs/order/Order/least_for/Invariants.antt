use Rattle.std.proofs.Common.{◌≤◌, ◌<◌, ◌^◌, ℕ}
use Rattle.ring_words.proofs.order.Order.least_for.Given as goal

abbrev pub invariant-loop-number : goal.invariant-loop-number
invariant-loop-number l = (n : ℕ) → n < l.number → 12 ≤ n → 2 ^ n < l.bytes
