-- Each step keeps what always holds.
pub mod InvariantSteps
