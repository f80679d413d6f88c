pub mod Founds
pub mod Readers
pub mod Passings
pub mod Gathers
pub mod Puts
pub mod Sessions
pub mod Pairs
pub mod Laws
