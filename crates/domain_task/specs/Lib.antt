pub mod Given
pub mod Owes
pub mod Turning
pub mod Working
