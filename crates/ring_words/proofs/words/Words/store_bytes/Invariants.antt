use Rattle.std.proofs.Common.{◌≡◌, take}
use Rattle.ring_words.specs.Overwritten.{overwritten}
use Rattle.ring_words.proofs.words.Words.store_bytes.Given as goal

abbrev pub invariant-loop-i : goal.invariant-loop-i
invariant-loop-i l = record {
  orders : l.self-inside.orders ≡ l.initial.self-inside.orders;
  stored : l.self-inside.list.items ≡ overwritten l.initial.self-inside.list.items l.first (take l.i l.bytes);
}
