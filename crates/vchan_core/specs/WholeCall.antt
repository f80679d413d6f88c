-- A whole call on a plain page, whose phase is kept outside the page.
pub mod AtPhase
pub mod Beside
pub mod EventAt
pub mod EventsMade
pub mod Stepped
