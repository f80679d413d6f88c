-- The tasks of an epoch, as contracts see them between two turns. A client that calls is its session.
-- Source: this project's own.
use Rattle.std.specs.Prelude.{ℕ}
use Rattle.atomic_table.specs.Seated.{TableId}
use Rattle.service_gate.specs.declared.builtin.Builtin.{Builtin}
use Rattle.channel_session.specs.Session.{ServingAt}

-- a hostile client before its only turn: the page of its end, and its stores
pub record ScribblingState : Type 0 where
  pub page : TableId
  pub seed : ℕ
  pub stores : ℕ

-- the server: its session, and its service before any input
pub record AnsweringState : Type 0 where
  pub session : ServingAt
  pub service : Builtin
