pub mod Scenarios
pub mod Domains
pub mod Sessions
pub mod Reports
pub mod Runs
