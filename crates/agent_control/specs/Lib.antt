pub mod Speaking
pub mod Stopping
