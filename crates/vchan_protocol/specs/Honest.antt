-- What holds of a page while both ends are honest: its rings, its ends' lives, and the laws of each step.
pub mod RingLaw
pub mod LifeLaw
pub mod Lawful
pub mod Reached
pub mod HonestLaws
