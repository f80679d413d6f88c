pub mod Lifecycle
pub mod Ended
