pub mod Clients
pub mod Reading
pub mod Epochs
pub mod States
pub mod Owes
pub mod Tasks
pub mod Settling
