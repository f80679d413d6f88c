mod CallingLaws
mod AnsweringLaws
mod TurningLaws
pub mod KeepingLaws
pub mod Sent
