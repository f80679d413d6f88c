-- What each call owes, event by event, and how long it is.
pub mod PlanLaws
pub mod Bounds
pub mod Counted
pub mod Sound
