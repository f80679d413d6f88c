pub mod Page
pub mod Sides
pub mod Driving
