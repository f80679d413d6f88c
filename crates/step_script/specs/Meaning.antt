-- What a script prints.
pub mod Output
pub mod Played
pub mod ListScript
pub mod ScriptText
