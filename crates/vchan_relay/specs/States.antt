-- The tasks of a run of relays, as contracts see them between two turns. A relay is its RelayState.
-- Source: this project's own.
use Rattle.std.specs.Prelude.{ℕ, List}
use Rattle.vchan_rule.specs.Seated.{SeatedEnd}

-- a writer: its end, and what it sends
pub record WriterState : Type 0 where
  pub end : SeatedEnd
  pub bytes : List ℕ

-- a reader: its end, and how many bytes it has room for
pub record ReaderState : Type 0 where
  pub end : SeatedEnd
  pub room : ℕ
