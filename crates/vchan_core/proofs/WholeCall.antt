-- The loop over the events of a whole call, and the events that it makes at once.
pub mod RunLaws
pub mod LoopLaws
pub mod LookLaws
pub mod PieceLaws
pub mod AdvanceLaws
