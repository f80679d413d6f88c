pub mod Feeding
pub mod Numbers
pub mod EveryService
