pub mod Turning
pub mod Session
