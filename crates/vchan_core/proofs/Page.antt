-- An event of a page is the event of each core state that it stands for.
pub mod StepLaws
pub mod TurnLaws
pub mod PlainLaws
pub mod EndLaws
