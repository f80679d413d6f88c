-- Runs, built by hand.
pub mod PageSizes
pub mod QuietRun
pub mod RefusedRun
pub mod ServedBytes
pub mod ServedRun
pub mod EachRun
pub mod ResultLaws
