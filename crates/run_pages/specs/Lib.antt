pub mod Routes
pub mod Pages
pub mod Starts
pub mod Dealt
pub mod Settling
