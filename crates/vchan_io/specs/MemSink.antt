-- A sink over memory, as its callers see it.
use Rattle.std.specs.Prelude.{◌≡◌, ℕ, ◌-◌, ◌<◌, ◌⊎◌, min, List, length, take, ◌++◌}
use Rattle.vchan_io.specs.Counts.{one_more, IsNextToFail}

-- the bytes held, how many may be held, the most per call, the numbers of the calls that fail, the
-- calls made and the faults met
pub record MemSinkState : Type 0 where
  pub held : List ℕ
  pub room : ℕ
  pub most : ℕ
  pub fails : List ℕ
  pub calls : ℕ
  pub faults : ℕ

-- the next write, of these bytes, fails: by its number, or because the room is used up
abbrev pub FailsToWrite : MemSinkState → List ℕ → Type 0
FailsToWrite sink piece = IsNextToFail sink.fails sink.calls ⊎ ((0 < length piece) × (length sink.held ≡ sink.room))

-- how many bytes of a piece a write takes
abbrev pub taken_count : MemSinkState → List ℕ → ℕ
taken_count sink piece = min (length piece) (min sink.most (sink.room - length sink.held))

-- the sink after a write that took the first `count` bytes of a piece
abbrev pub after_taken : MemSinkState → List ℕ → ℕ → MemSinkState
after_taken sink piece count = record sink { held = sink.held ++ take count piece; calls = one_more sink.calls }

-- the sink after a write that failed
abbrev pub after_failed_write : MemSinkState → MemSinkState
after_failed_write sink = record sink { calls = one_more sink.calls; faults = one_more sink.faults }
