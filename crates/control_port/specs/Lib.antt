pub mod Talking
pub mod Port
