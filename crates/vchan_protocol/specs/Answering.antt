-- What an answer tells of its call, by what the call loaded.
pub mod Loads
pub mod Causes
pub mod AnswerLaw
