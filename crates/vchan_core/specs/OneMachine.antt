-- What a machine still has to do of its call.
pub mod Phases
pub mod Ahead
pub mod Refusals
pub mod Keeping
