pub mod Input
pub mod Texts
pub mod Listings
