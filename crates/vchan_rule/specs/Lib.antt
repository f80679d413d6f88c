pub mod Rule
pub mod Seated
pub mod Ends
pub mod Along
pub mod Going
pub mod Called
pub mod Done
pub mod Words
