use Rattle.std.proofs.Common.{◌≡◌, ◌++◌, drop}
use Rattle.ring_words.specs.Overwritten.{low_bytes}
use Rattle.ring_words.proofs.words.Words.load_bytes.Given as goal

abbrev pub invariant-loop-i : goal.invariant-loop-i
invariant-loop-i l = l.buf ≡ low_bytes l.self.list l.first l.i ++ drop l.i l.fn.buf
