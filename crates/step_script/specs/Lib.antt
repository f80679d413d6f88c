pub mod Language
pub mod Meaning
pub mod Parts
