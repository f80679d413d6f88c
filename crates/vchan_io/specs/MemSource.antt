-- A source over memory, as its callers see it.
use Rattle.std.specs.Prelude.{ℕ, min, List, length, drop}
use Rattle.vchan_io.specs.Counts.{one_more}

-- the bytes left, the most per call, the numbers of the calls that fail, the calls made and the faults met
pub record MemSourceState : Type 0 where
  pub left : List ℕ
  pub most : ℕ
  pub fails : List ℕ
  pub calls : ℕ
  pub faults : ℕ

-- how many bytes a read into a buffer of this length gives
abbrev pub given_count : MemSourceState → ℕ → ℕ
given_count source room = min room (min source.most (length source.left))

-- the source after a read that gave this many bytes
abbrev pub after_given : MemSourceState → ℕ → MemSourceState
after_given source count = record source { left = drop count source.left; calls = one_more source.calls }

-- the source after a read that failed
abbrev pub after_failed_read : MemSourceState → MemSourceState
after_failed_read source = record source { calls = one_more source.calls; faults = one_more source.faults }
