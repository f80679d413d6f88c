-- The readers of words and lines read the language.
pub mod OrdersLaws
pub mod NameLaws
pub mod ScriptLaws
