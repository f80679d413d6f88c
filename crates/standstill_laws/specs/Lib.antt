pub mod Page
pub mod Sides
pub mod Turns
pub mod Moments
pub mod Pace
