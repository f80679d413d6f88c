-- One side of a greeting, as contracts see it.
use Rattle.std.specs.Prelude.{ℕ, Bool}

pub record GreetingSide : Type 0 where
  -- the version that it speaks, 2 or 3
  pub own : ℕ
  -- whether the other side's greeting hasn't been taken yet
  pub waiting : Bool
