pub mod Names
pub mod Views
pub mod Backs
pub mod Offers
