pub mod Places
mod Sublists
mod CountLaws
mod TriggerLaws
mod IndexLaws
mod KeptLaws
mod FreshLaws
mod StepLaws
pub mod AskingLaws
