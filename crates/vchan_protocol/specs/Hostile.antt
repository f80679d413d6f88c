-- What holds of a page whose ends may be turned over to a hostile user.
pub mod Turned
pub mod TurnedLaw
pub mod TurnedLaws
