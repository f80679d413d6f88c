-- What calls and scripts come to.
pub mod GotLaws
pub mod FinishLaws
pub mod ListScriptLaws
