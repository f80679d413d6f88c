pub mod Lines
pub mod Summary
pub mod Summing
