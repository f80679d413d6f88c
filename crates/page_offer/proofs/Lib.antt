mod OfferLaws
mod SettleLaws
pub mod NameLaws
pub mod Sent
