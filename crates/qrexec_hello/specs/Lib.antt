pub mod Side
pub mod Greeting
