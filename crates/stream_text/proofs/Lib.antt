pub mod ListingLaws
pub mod InputLaws
