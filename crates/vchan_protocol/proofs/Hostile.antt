-- Each step keeps what holds beside a hostile end.
pub mod TurnedSteps
