-- Each step between two honest ends loses no signal.
pub mod Notifies
pub mod Watched
pub mod OwnSteps
pub mod OtherSteps
pub mod SignalLaws
