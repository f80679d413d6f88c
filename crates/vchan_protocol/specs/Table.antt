-- The table of calls: a call as a plan of events, which words are whose, one row for each call, and what an event does to its word.
pub mod Plan
pub mod Ends
pub mod Calls
pub mod Apply
pub mod CallLaws
