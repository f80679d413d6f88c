-- The parts of the reader and of the player.
pub mod SpacedLaws
pub mod EndPlayerLaws
pub mod DoesLaws
pub mod PlayerLaws
pub mod RunningLaws
