pub mod Rings
pub mod Page
pub mod Choice
pub mod PageWords
pub mod Overwritten
pub mod Image
