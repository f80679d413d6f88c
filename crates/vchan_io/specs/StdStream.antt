-- A reader or a writer of std with a count of its faults, as callers see it.
use Rattle.std.specs.Prelude.{ℕ}

pub record StdStream (S : Type 0) : Type 0 where
  pub inner : S
  pub faults : ℕ
